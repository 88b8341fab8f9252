-- Nodes that are to be placed together.
use Rattle.std.specs.Prelude.{◌≡◌, ℕ, suc, ◌+◌, ◌<◌, ◌≤◌, ◌^◌, List, [], ◌∷◌, ◌++◌}
use Rattle.std.specs.List.{Contains, flat_map}
use Rattle.group_history.specs.declared.nodes.Node.{Node}
use Rattle.group_history.specs.declared.refs.Ref.{Ref}
use Rattle.group_history.specs.Naming.{children}
use Rattle.group_history.specs.Refs.{stamp_of, stamps}

-- the stamp of the first node, and the nodes in order
pub record Drafted : Type 0 where
  pub first : ℕ
  pub nodes : List (Node Ref)

-- so many nodes any draft has at most, which would take 192 GiB
abbrev pub longest : ℕ
longest = 2 ^ 32

-- all stamps but so many are drawn
abbrev pub IsLate : ℕ → Type 0
IsLate first = stamps ≤ first + longest

-- each of these references has a stamp below n
abbrev pub AreBelow : ℕ → List Ref → Type 0
AreBelow n ats = (at : Ref) → Contains ats at → stamp_of at < n

-- each node's children have stamps below its own; the first node's stamp is n
abbrev pub AreChildrenBelow : ℕ → List (Node Ref) → Type 0
AreChildrenBelow n [] = Unit {0}
AreChildrenBelow n (c ∷ cs) = AreBelow n (children c) × AreChildrenBelow (suc n) cs

-- WHAT IS NEEDED

-- one of these references has the stamp
abbrev pub HasStamp : ℕ → List Ref → Type 0
HasStamp n ats = (at : Ref) × Contains ats at × (stamp_of at ≡ n)

-- Each node is a child of a later one, or one of these references names it; the first node's stamp is n. So for one
-- reference, which then names the last node, each is reached from there.
abbrev pub AreNeeded : ℕ → List (Node Ref) → List Ref → Type 0
AreNeeded n [] ats = Unit {0}
AreNeeded n (c ∷ cs) ats = HasStamp n (flat_map children cs ++ ats) × AreNeeded (suc n) cs ats

-- Where each node of the old draft is needed, for these references and others, each of the new one is for those and the
-- same others. So none is added that is needed for nothing.
abbrev pub AddsNeeded : List Ref → List Ref → Drafted → Drafted → Type 0
AddsNeeded these those old new = (others : List Ref) → AreNeeded old.first old.nodes (these ++ others)
    → AreNeeded new.first new.nodes (those ++ others)
