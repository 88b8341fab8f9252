-- Replaying one mutation more.
use Rattle.std.proofs.Common.{◌≡◌, List, [], ◌∷◌, ◌++◌, refl, sym, ap, ◌∙◌}
use Rattle.group_history.specs.declared.mutations.MutationFields.{MutationFields as Mutation}
use Rattle.std.specs.Prelude.{Ok}
use Rattle.group_history.specs.Map.{Entries}
use Rattle.group_history.specs.Meaning.{Meaning, Meanings, unknown, refuses, done, left_by, meaning_of}
use Rattle.group_history.specs.State.{replayed, replayed_once}
use Rattle.group_history.specs.Mutating.{map_if_done}

pub replayed-append : (means : Meanings) (m : Entries) (xs ys : List Mutation)
    → replayed means m (xs ++ ys) ≡ replayed means (replayed means m xs) ys
replayed-append means m [] ys = refl
replayed-append means m (x ∷ xs) ys = replayed-append means (replayed_once means m x) xs ys

-- the map that a mutation leaves is what its meaning leaves
left_of_done : (meaning : Meaning) (m left : Entries) → map_if_done meaning ≡ Ok left → left ≡ left_by meaning m
left_of_done unknown m left e = cc
left_of_done (refuses code) m left e = cc
left_of_done (done n) m left e = cc

-- the map that a mutation leaves of what is shown is what is shown with it at the end
pub shown_with : (means : Meanings) (m : Entries) (xs ys : List Mutation) (x : Mutation) (shown left : Entries)
    → map_if_done (meaning_of means x shown) ≡ Ok left → ys ≡ xs ++ x ∷ [] → shown ≡ replayed means m xs
    → left ≡ replayed means m ys
shown_with means m xs ys x shown left leaves more is =
    left_of_done (meaning_of means x shown) shown left leaves
    ∙ (λ i. left_by (meaning_of means x (is i)) (is i))
    ∙ sym (ap (replayed means m) more ∙ replayed-append means m xs (x ∷ []))
