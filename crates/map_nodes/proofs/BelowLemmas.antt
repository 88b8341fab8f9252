-- The names that a freeze gives are below the next one's, and what it drafted before stays.
use Rattle.std.proofs.Common.{◌≡◌, ◌<◌, ◌≤◌, ℕ, inl, inr, List, [], ◌∷◌, ◌++◌, length, sym, ap, ◌∙◌, subst}
use Rattle.std.proofs.Common.{Result, OnOk, OnErr}
use mathlib.Core.List.{IsPrefix}
use Rattle.std.specs.List.{Contains}
use Rattle.std.proofs.lemmas.List.Elements.{Contains-append_cases, Contains-append_left, Contains-append_right}
use Rattle.group_history.specs.declared.nodes.Node.{Node}
use Rattle.group_history.specs.declared.refs.Ref.{Ref}
use Rattle.group_history.specs.declared.refusals.Refusal.{Refusal}
use Rattle.group_history.specs.Map.{Bytes}
use Rattle.group_history.specs.Refs.{stamp_of}
use Rattle.group_history.specs.Rows.{paired, values_of}
use Rattle.group_history.proofs.Pairs.{values_of-paired}
use Rattle.group_history.proofs.Lists.{only_one, prefix_self}
use Rattle.map_chunks.specs.Drafts.{Drafted, AreBelow}
use Rattle.map_chunks.proofs.AnswerLemmas.{either_way}
use Rattle.map_chunks.proofs.DraftLemmas.{below-more}
use Rattle.map_nodes.specs.Inside.Freezing.{child_places, kids_places}
use Rattle.map_nodes.specs.declared.nodes.OwnChild.{OwnChild}

kid-among : (done rest : List OwnChild) (kid : OwnChild) (at : Ref) → Contains (child_places kid) at
    → Contains (kids_places (done ++ kid ∷ rest)) at
kid-among [] rest kid at h = Contains-append_left (child_places kid) (kids_places rest) at h
kid-among (k ∷ ks) rest kid at h = Contains-append_right (child_places k) (kids_places (ks ++ kid ∷ rest)) at
    (kid-among ks rest kid at h)

-- one of the children, where more was drafted meanwhile
pub kid-below : (n m : ℕ) (all done rest : List OwnChild) (kid : OwnChild) → all ≡ done ++ kid ∷ rest → n ≤ m
    → AreBelow n (kids_places all) → AreBelow m (child_places kid)
kid-below n m all done rest kid e le h = below-more n m (child_places kid) le
    (λ at i. subst (λ ks. AreBelow n (kids_places ks)) e h at (kid-among done rest kid at i))

-- one more name
pub below-one : (n m : ℕ) (ats : List Ref) (at : Ref) → n ≤ m → AreBelow n ats → stamp_of at < m
    → AreBelow m (ats ++ at ∷ [])
below-one n m ats at le h lt r i = elim (Contains-append_cases ats (at ∷ []) r i) [
  | inl p ↦ below-more n m ats le h r p
  | inr p ↦ subst (λ w. stamp_of w < m) (only_one at r p) lt
]

-- the names of an inner chunk's children
pub inner-below : (n : ℕ) (keys : List Bytes) (ats : List Ref) (es : List (Bytes × Ref)) → length ats ≡ length keys
    → es ≡ paired keys ats → AreBelow n ats → AreBelow n (values_of es)
inner-below n keys ats es l e h = subst (AreBelow n) (sym (ap (λ w. values_of w) e ∙ values_of-paired keys ats l)) h

-- a node is appended, or refused
pub pushed-grown : (old new : Drafted) (n : Node Ref) (r : Result Ref Refusal)
    → OnOk r (new ≡ record { first = old.first; nodes = old.nodes ++ n ∷ [] }) → OnErr r (new ≡ old)
    → IsPrefix old.nodes new.nodes
pushed-grown old new n r ok err = either_way r ok err
    (λ o. (n ∷ [], sym (ap (λ (d : Drafted). d.nodes) o)))
    (λ e. subst (λ (d : Drafted). IsPrefix old.nodes d.nodes) (sym e) (prefix_self old.nodes))
