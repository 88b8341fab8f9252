-- What a client keeps beside its seat stays right while its seat learns more.
use Rattle.std.proofs.Common.{◌≡◌, ℕ, [], true, Option, Some, Result, Ok, Err, IfOk, ap, is_ok, subst, sym, ◌∙◌}
use Rattle.group_history.specs.declared.changes.Change.{Change}
use Rattle.group_history.specs.declared.changes.Change.TheVariants.{Mutated, Pulled, Closed}
use Rattle.group_history.specs.declared.refs.Ref.{Ref}
use Rattle.group_history.specs.declared.refusals.Refusal.{Refusal}
use Rattle.group_history.specs.Map.{Bytes}
use Rattle.group_history.specs.Refs.{stamp_of}
use Rattle.head_word.specs.Books.{drawn}
use Rattle.commit_graph.specs.LastIds.{last_at}
use Rattle.commit_graph.specs.Seats.{GroupId, IsSameSeat, SeatState}
use Rattle.commit_graph.specs.declared.states.LastId.{LastId}
use Rattle.change_tries.specs.Proposing.{AsksNext, StaysFound}
use Rattle.change_tries.specs.declared.views.Rooted.{Rooted}
use Rattle.change_tries.proofs.Finding.{last_grown}
use Rattle.change_tries.proofs.Rooting.{roots_stay}
use Rattle.rebase.specs.Inside.Keeping.{KeepsClient}

pub keeps_later : (reused : Type 0) (group : GroupId) (old new : SeatState) (id : Bytes) (last : ℕ) (found : Ref)
    (latest : Option Rooted) → IsSameSeat old new → (reused → new.view.taken ≡ [])
    → KeepsClient reused group old id last found latest → KeepsClient reused group new id last found latest
keeps_later reused group old new id last found latest same none k = record {
  home = (same.later.book ∙ k.home.0, same.table ∙ k.home.1);
  none = none;
  at = last_grown old.mark.log new.mark.log (stamp_of found) id last same.later.seen k.at;
  low = k.low;
  rooted = roots_stay old.mark.log new.mark.log latest same.later.seen k.rooted;
}

-- where its last id was found by the way
pub keeps_found : (reused : Type 0) (group : GroupId) (old new : SeatState) (id : Bytes) (last : ℕ) (found : Ref)
    (latest : Option Rooted) (now : LastId) (c : Change) → AsksNext id last c
    → StaysFound (drawn new.mark.log) (record { at = found; id = last }) now c → IsSameSeat old new
    → (reused → new.view.taken ≡ []) → KeepsClient reused group old id last found latest
    → KeepsClient reused group new id last now.at latest
keeps_found reused group old new id last found latest now (Mutated x) next is same none k = record {
  home = (same.later.book ∙ k.home.0, same.table ∙ k.home.1);
  none = none;
  at = subst (λ (client : Bytes). last_at (drawn new.mark.log) (stamp_of now.at) client ≡ Some last) next.0
      (is.0 ∙ ap Some is.1);
  low = k.low;
  rooted = roots_stay old.mark.log new.mark.log latest same.later.seen k.rooted;
}
keeps_found reused group old new id last found latest now (Pulled t r) next is same none k =
    subst (λ (at : Ref). KeepsClient reused group new id last at latest) (ap (λ (l : LastId). l.at) (sym is))
    (keeps_later reused group old new id last found latest same none k)
keeps_found reused group old new id last found latest now Closed next is same none k =
    subst (λ (at : Ref). KeepsClient reused group new id last at latest) (ap (λ (l : LastId). l.at) (sym is))
    (keeps_later reused group old new id last found latest same none k)

-- what holds where a call was answered
pub where_ok : {X P : Type 0} (r : Result X Refusal) → is_ok r ≡ true → IfOk r (λ _. P) → P
where_ok (Ok x) is h = h
where_ok (Err e) is h = absurd (cc is)
