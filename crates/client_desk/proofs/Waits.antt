-- Changes that wait for others.
use Rattle.std.proofs.Common.{◌≡◌, ℕ, ◌+◌, Some, Result, Ok, Err, refl, subst}
use Rattle.std.specs.Prelude.{IfErr, IfOk, ⊤}
use Rattle.group_history.specs.declared.refusals.Refusal.{Refusal}
use Rattle.group_history.specs.declared.refusals.Refusal.TheVariants as refusal
use Rattle.group_history.specs.declared.responses.Ended.{Ended}
use Rattle.group_history.specs.Meaning.{Meanings}
use Rattle.commit_graph.specs.Seats.{SeatState}
use Rattle.change_tries.specs.Causes.{HasCause}
use Rattle.change_tries.specs.Missing.{map_ok}
use Rattle.rebase.specs.Asking.{is_passing}
use Rattle.rebase.specs.Calls.{Caller, change_for, last_after}
use Rattle.rebase.specs.Clients.{ClientState}
use Rattle.rebase.specs.Replies.{Replied, ended, id}
use Rattle.rebase.specs.declared.calls.Call.{Call as Changing}
use Rattle.rebase.proofs.CallLemmas.{why_told}
use Rattle.client_desk.specs.Answers.{ByClient, Rule, absent}
use Rattle.client_desk.specs.Places.{PlaceState}
use Rattle.client_desk.specs.Told.{Told, ended_told, id_told, replied_told, tells}
use Rattle.client_desk.proofs.Telling.{at_some}

-- a refusal passes as it is told
pub passing_told : {X Y : Type 0} (f : X → Y) (r : Result X Refusal) → is_passing (map_ok f r) ≡ is_passing r
passing_told f (Ok x) = refl
passing_told f (Err refusal.Moved) = refl
passing_told f (Err refusal.Busy) = refl
passing_told f (Err refusal.Gone) = refl
passing_told f (Err e) = refl

-- the id of a mutation is the last one, and a refused one leaves that
pub last_made : (r : Result ℕ Refusal) (old new : ℕ) → IfOk r (λ n. (n ≡ old + 1) × (new ≡ n))
    → IfErr r (λ _. new ≡ old) → new ≡ last_after old (map_ok id r)
last_made (Ok n) old new made left = made.1
last_made (Err e) old new made left = left

-- the end of a pull leaves the last id
pub last_kept : (last : ℕ) (r : Result Ended Refusal) → last_after last (map_ok ended r) ≡ last
last_kept last (Ok e) = refl
last_kept last (Err e) = refl

-- what is told of a reply
pub id_replied : (r : Result ℕ Refusal) → tells id_told r ≡ tells replied_told (map_ok id r)
id_replied (Ok n) = refl
id_replied (Err e) = refl

pub ended_replied : (r : Result Ended Refusal) → tells ended_told r ≡ tells replied_told (map_ok ended r)
ended_replied (Ok e) = refl
ended_replied (Err e) = refl

-- why a call is refused, as it is told
pub cause_told : {X : Type 0} (f : X → Replied) (means : Meanings) (c : Caller) (made : Changing) (r : Result X Refusal)
    (old new : SeatState) → IfErr r (HasCause means ⊤ c.last (change_for c made) old new)
    → IfErr (map_ok f r) (HasCause means ⊤ c.last (change_for c made) old new)
cause_told f means c made r old new is = why_told f (HasCause means ⊤ c.last (change_for c made) old new) r is

-- what the client that sits at a place does there
pub by_this : (rule : ClientState → Rule) (v b : PlaceState) (client : ClientState) (t : Told) (new : PlaceState)
    → v ≡ b → v.client ≡ Some client → rule client v t new → ByClient rule b t new
by_this rule v b client t new same is done =
    subst (λ s. ByClient rule s t new) same (at_some v.client (absent v.reading) rule client v t new is done)
