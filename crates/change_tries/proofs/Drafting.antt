-- What a draft of a mutation answers.
use Rattle.std.proofs.Common.{◌≡◌, ◌≢◌, ◌⊎◌, inl, inr, ℕ, [], Option, Some, None, Result, Err, refl, sym, ap}
use Rattle.std.proofs.Common.{subst, ◌∙◌, append-nil}
use Rattle.group_history.specs.declared.changes.Change.{Change}
use Rattle.group_history.specs.declared.mutations.MutationFields.{MutationFields as Mutation}
use Rattle.group_history.specs.declared.refusals.Refusal.{Refusal}
use Rattle.group_history.specs.declared.refusals.Refusal.TheVariants as refusal
use Rattle.group_history.specs.Answers.{Refuses}
use Rattle.group_history.specs.Meaning.{Meaning, Meanings, unknown, refuses, done}
use Rattle.group_history.specs.Mutating.{by_meaning}
use Rattle.group_history.specs.Spelling.{Contents, Version, version_of, Spells}
use Rattle.group_history.specs.State.{State}
use Rattle.group_history.specs.Stops.{told_as}
use Rattle.map_chunks.specs.Places.{with_nodes}
use Rattle.commit_graph.specs.Stores.{IsStoreStop}
use Rattle.linearized.specs.Changes.{change_made}
use Rattle.linearized.specs.Trying.{IsUnproposed}
use Rattle.change_drafts.specs.Refusing.{StopsAs, RefusesFor}
use Rattle.change_tries.specs.Missing.{IsStop, map_ok}

-- one commit spells one state
pub one_state : (means : Meanings) (cs : Contents) (k : ℕ) (s t : State) → Spells means cs k s
    → Spells means cs k t → s ≡ t
one_state means cs k s t a b = let e : Some (version_of means s) ≡ Some (version_of means t) = sym a ∙ b in
    let f : version_of means s ≡ version_of means t = cc e in ap (λ (v : Version). v.state) f

-- what stops a proposal is no change of others
stop_stays : (reused : Type 0) (e : Refusal) → IsStop reused e → e ≢ refusal.Moved
stop_stays reused e (inl is) moved = cc (sym is ∙ moved)
stop_stays reused e (inr (inl is)) moved = cc (sym is ∙ moved)
stop_stays reused e (inr (inr (inl is))) moved = cc (sym is ∙ moved)
stop_stays reused e (inr (inr (inr is))) moved = cc (sym is.1 ∙ moved)

for_want : {X : Type 0} (reused : Type 0) (change : Result X Refusal → Option Change) (right : Result X Refusal)
    (e : Refusal) → IsStop reused e → IsUnproposed (IsStop reused) change right e
for_want reused change right e stop = (inl stop, stop_stays reused e stop)

lost_stops : (reused : Type 0) (e : Refusal) → StopsAs (IsStoreStop reused) e → IsStop reused e
lost_stops reused e (s, inl gone, is) = inr (inr (inl (is ∙ ap told_as gone)))
lost_stops reused e (s, inr lost, is) = inr (inr (inr (lost.0, is ∙ ap told_as lost.1)))

pub right_or : {X : Type 0} (e : Refusal) (right : Result X Refusal) → Refuses e right
    → (e ≡ refusal.NoMemory) ⊎ (right ≡ Err e)
right_or refusal.NoMemory right is = inl refl
right_or e right is = inr is

not_moved : (m : Meaning) (id : ℕ) (e : Refusal) → by_meaning m id ≡ Err e → e ≢ refusal.Moved
not_moved unknown id e is moved = let h : by_meaning unknown id
    ≡ Err refusal.Moved = subst (λ (w : Refusal). by_meaning unknown id ≡ Err w) moved is in cc h
not_moved (refuses code) id e is moved = let h : by_meaning (refuses code) id
    ≡ Err refusal.Moved = subst (λ (w : Refusal). by_meaning (refuses code) id ≡ Err w) moved is in cc h
not_moved (done m) id e is moved = cc is

by_right : (reused : Type 0) (m : Meaning) (id : ℕ) (x : Mutation) (e : Refusal)
    → (e ≡ refusal.NoMemory) ⊎ (by_meaning m id ≡ Err e)
    → IsUnproposed (IsStop reused) (change_made x) (by_meaning m id) e
by_right reused m id x e (inl none) = for_want reused (change_made x) (by_meaning m id) e (inr (inl none))
by_right reused m id x e (inr is) = (inr (is, refl), not_moved m id e is)

-- what a draft of a mutation is refused with
pub refused_for : (reused : Type 0) (m : Meaning) (id : ℕ) (x : Mutation) (e : Refusal)
    → RefusesFor (IsStoreStop reused) e (by_meaning m id) → IsUnproposed (IsStop reused) (change_made x)
    (by_meaning m id) e
refused_for reused m id x e (inl lost) = for_want reused (change_made x) (by_meaning m id) e (lost_stops reused e lost)
refused_for reused m id x e (inr (inl none)) = for_want reused (change_made x) (by_meaning m id) e (inl none.0)
refused_for reused m id x e (inr (inr is)) = by_right reused m id x e (right_or e (by_meaning m id) is)

-- nothing behind contents
pub behind_none : (cs : Contents) → with_nodes cs [] ≡ cs
behind_none cs = append-nil cs

-- a right answer that is told otherwise is refused as it is
pub told_unproposed : {X Y : Type 0} (stops : Refusal → Type 0) (f : X → Y) (change : Result X Refusal → Option Change)
    (asked : Result Y Refusal → Option Change) (right : Result X Refusal) (e : Refusal)
    → asked (Err e) ≡ None → IsUnproposed stops change right e → IsUnproposed stops asked (map_ok f right) e
told_unproposed stops f change asked right e none (inl want, other) = (inl want, other)
told_unproposed stops f change asked right e none (inr is, other) = (inr (ap (map_ok f) is.0, none), other)
