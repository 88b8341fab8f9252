-- A call at a spot is a call at its desk.
use Rattle.std.proofs.Common.{◌≡◌, List, refl, subst}
use Rattle.client_desk.specs.declared.outcomes.Outcome.{Outcome}
use Rattle.host_places.specs.Mutators.{Meant, has_of, means_of}
use Rattle.host_places.specs.Numbers.{MayAnswerNumbers}
use Rattle.host_places.specs.Desks.{DeskState}
use Rattle.client_desk.specs.Told.{told}
use Rattle.host_places.specs.declared.numbered.Numbered.{Numbered}
use Rattle.giqaymu_c.specs.declared.jobs.JobReply.{JobReply}
use Rattle.giqaymu_c.specs.Jobs.{Calls, RepliesAt}
use Rattle.giqaymu_c.specs.Spots.{SpotState}

abbrev pub spot : DeskState → List DeskState → SpotState
spot desk spare = record { desk = desk; spare = spare }

pub calls_of : (meant : Meant) (call : Numbered) (outcome : Outcome) (old new : DeskState) (spare : List DeskState)
    (before : SpotState) (reply : JobReply) → spot old spare ≡ before
    → MayAnswerNumbers (has_of meant) (means_of meant) call old.place (told outcome new.bytes) new.place
    → RepliesAt call.what outcome new reply → Calls meant call before reply (spot new spare)
calls_of meant call outcome old new spare before reply was answered tells =
    subst (λ b. Calls meant call b reply (spot new spare)) was (record {
      desk = new;
      called = record { outcome = outcome; answered = answered; told = tells };
      left = refl;
    })
