-- What a commit names has stamps below the commit's own.
use Rattle.std.proofs.Common.{◌≡◌, ◌<◌, ◌≤◌, ◌+◌, ℕ, inl, inr, List, [], ◌∷◌, ◌++◌, length, ap, sym, subst, arith}
use Rattle.std.proofs.Common.{Some, ◌∙◌}
use mathlib.Core.List.{IsPrefix}
use Rattle.std.proofs.lemmas.List.{length-append}
use Rattle.std.proofs.lemmas.List.Elements.{Contains-append_cases}
use Rattle.group_history.specs.declared.refs.Ref.{Ref}
use Rattle.group_history.specs.Refs.{stamp_of}
use Rattle.group_history.specs.Map.{Entries}
use Rattle.group_history.specs.Spelling.{Contents, Version, map_at}
use Rattle.group_history.proofs.Lists.{only_one}
use Rattle.map_chunks.specs.Drafts.{Drafted, AreBelow}
use Rattle.map_chunks.specs.Places.{with_nodes}
use Rattle.map_chunks.proofs.DraftLemmas.{below-none}
use Rattle.map_tree.proofs.BelowLemmas.{version-within, map-within, length-with}
use Rattle.commit_graph.proofs.Snapshots.{begins}
use Rattle.change_drafts.specs.Chaining.{HasTip}
use Rattle.change_drafts.specs.declared.tips.Tip.{Tip}

pub below-cons : (n : ℕ) (at : Ref) (ats : List Ref) → stamp_of at < n → AreBelow n ats → AreBelow n (at ∷ ats)
below-cons n at ats lt h r i = elim (Contains-append_cases (at ∷ []) ats r i) [
  | inl p ↦ subst (λ w. stamp_of w < n) (only_one at r p) lt
  | inr p ↦ h r p
]

-- the commit and its chain's snapshot
chain-within : (ns : Contents) (tip : Tip) (v : Version) → HasTip ns tip v
    → AreBelow (length ns) (tip.commit ∷ tip.snapshot ∷ [])
chain-within ns tip v h =
    let at = version-within ns (stamp_of tip.commit) v h.0 in
    let low = (begins ns (stamp_of tip.commit) v (stamp_of tip.snapshot) h.0 h.2).low in
    below-cons (length ns) tip.commit (tip.snapshot ∷ []) at
    (below-cons (length ns) tip.snapshot [] (omega (arith, at, low)) (below-none (length ns)))

length-behind : (cs : Contents) (d : Drafted) → length cs ≡ d.first
    → length (with_nodes cs d.nodes) ≡ d.first + length d.nodes
length-behind cs d l = omega (arith, length-with cs d.nodes, l)

-- so may a commit over it be drafted
pub chain-behind : (cs : Contents) (d : Drafted) (tip : Tip) (v : Version) → length cs ≡ d.first
    → HasTip (with_nodes cs d.nodes) tip v → AreBelow (d.first + length d.nodes) (tip.commit ∷ tip.snapshot ∷ [])
chain-behind cs d tip v l h = subst (λ n. AreBelow n (tip.commit ∷ tip.snapshot ∷ [])) (length-behind cs d l)
    (chain-within (with_nodes cs d.nodes) tip v h)

-- with this root
pub root-behind : (cs : Contents) (d : Drafted) (root : Ref) (m : Entries) (tip : Tip) (v : Version)
    → length cs ≡ d.first → map_at (with_nodes cs d.nodes) (stamp_of root) ≡ Some m
    → HasTip (with_nodes cs d.nodes) tip v
    → AreBelow (d.first + length d.nodes) (root ∷ tip.commit ∷ tip.snapshot ∷ [])
root-behind cs d root m tip v l is h =
    let low = map-within (with_nodes cs d.nodes) (stamp_of root) m is in
    below-cons (d.first + length d.nodes) root (tip.commit ∷ tip.snapshot ∷ [])
    (omega (arith, low, length-behind cs d l)) (chain-behind cs d tip v l h)

pub tip-behind : (cs : Contents) (d : Drafted) (tip : Tip) (v : Version) → length cs ≡ d.first
    → HasTip (with_nodes cs d.nodes) tip v
    → AreBelow (d.first + length d.nodes) (tip.root ∷ tip.commit ∷ tip.snapshot ∷ [])
tip-behind cs d tip v l h = root-behind cs d tip.root v.read tip v l h.1 h

-- the next name of a draft that grew is no lower
pub drafts-grown : (old new : Drafted) → new.first ≡ old.first → IsPrefix old.nodes new.nodes
    → old.first + length old.nodes ≤ new.first + length new.nodes
drafts-grown old new f p = omega (arith, f, length-append old.nodes p.0, ap length p.1)

-- what one was pushed on begins with it, and isn't empty
pub pushed_on : {A : Type 0} (xs ys : List A) (y : A) → ys ≡ xs ++ y ∷ [] → IsPrefix xs ys × (0 < length ys)
pushed_on xs ys y is = ((y ∷ [], sym is), omega (arith, ap length is ∙ length-append xs (y ∷ [])))
