-- What a commit that is drafted names is needed for it.
use Rattle.std.proofs.Common.{inl, inr, [], ◌∷◌, subst}
use Rattle.std.specs.List.{Contains}
use Rattle.std.proofs.lemmas.List.Elements.{Contains-append_left}
use Rattle.group_history.specs.declared.refs.Ref.{Ref}
use Rattle.group_history.proofs.Lists.{cons_cases, first_here, later_here, only_one}
use Rattle.map_chunks.specs.Drafts.{Drafted, AddsNeeded}
use Rattle.map_chunks.proofs.NeededLemmas.{AreIn, adds_beside, adds_for, adds_then}

second_in : (a b c : Ref) → AreIn (b ∷ []) (a ∷ b ∷ c ∷ [])
second_in a b c r i = subst (Contains (a ∷ b ∷ c ∷ [])) (only_one b r i)
    (later_here a (b ∷ c ∷ []) b (first_here b (c ∷ [])))

two_in : (a b c : Ref) → AreIn (a ∷ b ∷ []) (a ∷ b ∷ c ∷ [])
two_in a b c r i = Contains-append_left (a ∷ b ∷ []) (c ∷ []) r i

turned_in : (a b : Ref) → AreIn (a ∷ b ∷ []) (b ∷ a ∷ [])
turned_in a b r i = elim (cons_cases a (b ∷ []) r i) [
  | inl e ↦ subst (Contains (b ∷ a ∷ [])) e (later_here b (a ∷ []) a (first_here a []))
  | inr q ↦ subst (Contains (b ∷ a ∷ [])) (only_one b r q) (first_here b (a ∷ []))
]

-- a commit behind others of its chain
pub needed_next : (basis root commit snapshot at : Ref) (old mid new : Drafted)
    → AddsNeeded (basis ∷ []) (commit ∷ []) old mid → AddsNeeded (root ∷ commit ∷ snapshot ∷ []) (at ∷ []) mid new
    → AddsNeeded (basis ∷ []) (at ∷ []) old new
needed_next basis root commit snapshot at old mid new p q = adds_then (basis ∷ []) (root ∷ commit ∷ snapshot ∷ [])
    (at ∷ []) old mid new (adds_for (basis ∷ []) (basis ∷ []) (commit ∷ []) (root ∷ commit ∷ snapshot ∷ []) old mid
    (λ r i. i) (second_in root commit snapshot) p) q

-- behind its map
pub needed_local : (root commit snapshot at : Ref) (old mid new : Drafted) → AddsNeeded [] (root ∷ []) old mid
    → AddsNeeded (root ∷ commit ∷ snapshot ∷ []) (at ∷ []) mid new → AddsNeeded (commit ∷ []) (at ∷ []) old new
needed_local root commit snapshot at old mid new p q = adds_then (commit ∷ []) (root ∷ commit ∷ snapshot ∷ [])
    (at ∷ []) old mid new (adds_for (commit ∷ []) (commit ∷ []) (root ∷ commit ∷ []) (root ∷ commit ∷ snapshot ∷ [])
    old mid (λ r i. i) (two_in root commit snapshot) (adds_beside [] (root ∷ []) (commit ∷ []) old mid p)) q

-- behind others, before which its map was drafted
pub needed_last : (basis root commit snapshot at : Ref) (old mid new : Drafted)
    → AddsNeeded (basis ∷ []) (commit ∷ []) old mid → AddsNeeded (root ∷ commit ∷ snapshot ∷ []) (at ∷ []) mid new
    → AddsNeeded (root ∷ basis ∷ []) (at ∷ []) old new
needed_last basis root commit snapshot at old mid new p q =
    adds_then (root ∷ basis ∷ []) (root ∷ commit ∷ snapshot ∷ []) (at ∷ []) old mid new
    (adds_for (root ∷ basis ∷ []) (basis ∷ root ∷ []) (commit ∷ root ∷ []) (root ∷ commit ∷ snapshot ∷ []) old mid
    (turned_in root basis) (λ r i. two_in root commit snapshot r (turned_in commit root r i))
    (adds_beside (basis ∷ []) (commit ∷ []) (root ∷ []) old mid p)) q

-- a whole chain behind the map of its last commit
pub needed_chain : (basis root at : Ref) (old mid new : Drafted) → AddsNeeded [] (root ∷ []) old mid
    → AddsNeeded (root ∷ basis ∷ []) (at ∷ []) mid new → AddsNeeded (basis ∷ []) (at ∷ []) old new
needed_chain basis root at old mid new p q = adds_then (basis ∷ []) (root ∷ basis ∷ []) (at ∷ []) old mid new
    (adds_beside [] (root ∷ []) (basis ∷ []) old mid p) q
