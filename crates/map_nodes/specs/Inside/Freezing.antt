-- A draft's chunks written down as nodes: what shows rows in the draft spells them once its nodes are placed, by the
-- same chunks on each level, and each node names its children by the draft's own names, or as the draft names what is
-- placed.
use Rattle.std.specs.Prelude.{◌≡◌, ◌<◌, ◌≤◌, ◌+◌, ℕ, List, [], ◌∷◌, ◌++◌, length, Some}
use Rattle.group_history.specs.declared.nodes.Node.{Node}
use Rattle.group_history.specs.declared.refs.Ref.{Ref}
use Rattle.group_history.specs.Naming.{children}
use mathlib.Core.List.{IsPrefix}
use Rattle.group_history.specs.Refs.{stamp_of, slot_of}
use Rattle.group_history.specs.Rows.{Rows}
use Rattle.group_history.specs.Spelling.{Contents, rows_at}
use Rattle.map_nodes.specs.Inside.Nodes.{child_rows}
use Rattle.map_nodes.specs.Levels.{placed_levels, seen_levels, NamedLater}
use Rattle.map_nodes.specs.Nodes.{child_levels}
use Rattle.map_nodes.specs.declared.nodes.OwnChild.{OwnChild}
use Rattle.map_nodes.specs.declared.nodes.OwnChild.TheVariants.{Placed, Own}
use Rattle.map_chunks.specs.Places.{AddsNamed, places_of, with_nodes}
use Rattle.map_chunks.specs.Shown.{Seen, shown, fresh}
use Rattle.map_chunks.specs.Wide.{IsWideAt}

-- an own child is so deep
abbrev pub IsDeep : ℕ → OwnChild → Type 0
IsDeep depth (Placed at) = Unit {0}
IsDeep depth (Own n) = n.value.depth ≡ depth

-- The rows that the child shows while the draft has the old nodes are spelled by the reference's stamp where it
-- has the new ones. The draft's first stamp is given.
abbrev pub IsFrozen : ℕ → List (Node Ref) → List (Node Ref) → OwnChild → Ref → Type 0
IsFrozen first old new child at = (contents : Contents) (depth : ℕ) (rows : Rows) → length contents ≡ first
    → IsDeep depth child
    → child_rows (with_nodes contents old) depth child ≡ Some rows
    → rows_at (with_nodes contents new) depth (stamp_of at) ≡ Some rows

-- a reference for each child, in order
abbrev pub AreFrozen : ℕ → List (Node Ref) → List (Node Ref) → List OwnChild → List Ref → Type 0
AreFrozen first old new [] [] = Unit {0}
AreFrozen first old new [] (at ∷ ats) = ⊥
AreFrozen first old new (child ∷ children) [] = ⊥
AreFrozen first old new (child ∷ children) (at ∷ ats) = IsFrozen first old new child at
    × AreFrozen first old new children ats

-- The child has the chunks that are placed under the reference's stamp, whatever is placed later; those that were new
-- have stamps from the draft's first on.
abbrev pub IsLevel : ℕ → List (Node Ref) → OwnChild → Ref → Type 0
IsLevel first new child at = (contents : Contents) (depth : ℕ) → length contents ≡ first → IsDeep depth child
    → NamedLater first (with_nodes contents new) (child_levels depth child) (λ p. placed_levels p depth (stamp_of at))

abbrev pub AreLevel : ℕ → List (Node Ref) → List OwnChild → List Ref → Type 0
AreLevel first new [] [] = Unit {0}
AreLevel first new [] (at ∷ ats) = ⊥
AreLevel first new (child ∷ children) [] = ⊥
AreLevel first new (child ∷ children) (at ∷ ats) = IsLevel first new child at × AreLevel first new children ats

abbrev pub child_places : OwnChild → List Ref
child_places (Placed at) = at ∷ []
child_places (Own n) = places_of n.value.pieces

abbrev pub kids_places : List OwnChild → List Ref
kids_places [] = []
kids_places (k ∷ ks) = child_places k ++ kids_places ks

-- An own chunk is written down under a name behind the draft's old nodes, with all that it owns: what it shows is
-- spelled by the name's stamp, by the same chunks on each level, and each node names its children as the draft does.
-- The draft's first stamp is given.
pub record IsWritten (first : ℕ) (old new : List (Node Ref)) (n : Seen) (at : Ref) : Type 0 where
  pub spelled : (contents : Contents) (rows : Rows) → length contents ≡ first
      → shown (with_nodes contents old) n.pieces ≡ Some rows
      → rows_at (with_nodes contents new) n.depth (stamp_of at) ≡ Some rows
  pub levels : (contents : Contents) → length contents ≡ first
      → NamedLater first (with_nodes contents new) (seen_levels n) (λ p. placed_levels p n.depth (stamp_of at))
  pub wide : (contents : Contents) → length contents ≡ first → 1 < n.entries
      → IsWideAt (with_nodes contents new) (stamp_of at)
  pub named : AddsNamed first (places_of n.pieces) old new
  pub drafted : (first ≤ stamp_of at) × (slot_of at ≡ 0)
  pub below : stamp_of at < first + length new
  pub count : length new ≡ length old + fresh n
  pub grown : IsPrefix old new
