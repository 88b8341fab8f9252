use Rattle.std.proofs.Common.{refl}
use Rattle.std.specs.FinMap as finite
use Rattle.group_history.specs.Map.{Entries}
use Rattle.client_desk.specs.Drafts.{WritesMap}
use Rattle.client_desk.specs.Told.{told_alone}
use Rattle.client_desk.proofs.Asking.{asked_written, one_written, written_told}
use Rattle.client_desk.proofs.place.Place.draft_put.Goals as goal

pub invariant_of-self-2 : goal.invariant_of-self-2
invariant_of-self-2 g c =
    let was = rw c.in-Asking.is at c.self.invariant in
    let change : Entries → Entries = λ m. finite.insert m c.args.key.now c.args.value.now in (
      tt,
      tt,
      asked_written g.M.Hosted.had g.M.Means.means _ c.in-Asking.asking c.put_drafted.new.asking
          (one_written change _ _ (told_alone c.put_drafted.result) c.put_drafted.ensures) was.2,
      tt,
      c.self.invariant.4,
    )

pub returns : goal.returns
returns g c =
    let here = rw c.in-Asking.is at c.self.view_is in
    let change : Entries → Entries = λ m. finite.insert m c.args.key.now c.args.value.now in
    written_told (WritesMap change) _ c.args.self.now c.in-Asking.asking c.put_drafted.new.asking
    (told_alone c.put_drafted.result) here refl c.put_drafted.ensures
