-- What a run leaves, and what it replies.
use Rattle.std.proofs.Common.{◌≡◌, ◌⊎◌, inl, inr, ℕ, Result, Ok, Err, refl, sym, subst}
use Rattle.group_history.specs.declared.mutators.Ran.TheVariants as ran
use Rattle.group_history.specs.declared.refusals.Refusal.{Refusal}
use Rattle.group_history.specs.declared.refusals.Refusal.TheVariants as refusal
use Rattle.group_history.specs.Answers.{Refuses}
use Rattle.group_history.specs.Map.{Entries}
use Rattle.group_history.specs.Meaning.{Meaning, unknown, refuses, done, left_by}
use Rattle.group_history.specs.Mutating.{by_meaning, map_if_done}
use Rattle.group_history.specs.Ran.{RunsAs}
use Rattle.change_drafts.specs.Refusing.{IsOfChange, RefusesOrStamps}

-- the map that a mutation leaves, or why it is refused, by how its mutator ran
pub map-done : (meaning : Meaning) (m : Entries) → RunsAs meaning ran.Done m → map_if_done meaning ≡ Ok m
map-done unknown m h = absurd h
map-done (refuses code) m h = absurd h
map-done (done x) m h = cc

-- the map that a mutation leaves is what its meaning leaves
pub left-done : (meaning : Meaning) (m n : Entries) → map_if_done meaning ≡ Ok n → n ≡ left_by meaning m
left-done unknown m n h = cc
left-done (refuses code) m n h = cc
left-done (done x) m n h = cc

-- a refusal that is right is one that may come
pub Refuses-is : {X : Type 0} (e : Refusal) (right : Result X Refusal) → right ≡ Err e → Refuses e right
Refuses-is refusal.NoMemory right is = tt
Refuses-is e right is = is

-- what a change lacks may come in place of its answer
pub wants : {X : Type 0} (e : Refusal) (right : Result X Refusal) → IsOfChange right
    → (e ≡ refusal.NoMemory) ⊎ (e ≡ refusal.Stamps) → RefusesOrStamps e right
wants e right change (inl none) = inr (subst (λ (w : Refusal). Refuses w right) (sym none) tt)
wants e right change (inr none) = inl (none, change)

-- the replies
pub reply-done : (meaning : Meaning) (n : Entries) (id : ℕ) → map_if_done meaning ≡ Ok n → by_meaning meaning id ≡ Ok id
reply-done unknown n id h = cc
reply-done (refuses code) n id h = cc
reply-done (done x) n id h = refl

pub reply-refused : (meaning : Meaning) (e : Refusal) (id : ℕ) → map_if_done meaning ≡ Err e → by_meaning meaning id
    ≡ Err e
reply-refused unknown e id h = cc
reply-refused (refuses code) e id h = cc
reply-refused (done x) e id h = cc
