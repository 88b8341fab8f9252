-- The chunks of a draft: what their pieces are, and what holds of them.
use Rattle.std.specs.Prelude.{ℕ, ◌+◌, ◌-◌, ◌<◌, max, List, [], ◌∷◌, ◌++◌, map, length, ◌≡◌, None}
use Rattle.group_history.specs.Map.{Bytes}
use Rattle.group_history.specs.Refs.{stamp_of}
use Rattle.group_history.specs.Rows.{Rows, AreKeys, paired}
use Rattle.group_history.specs.Spelling.{Contents}
use Rattle.map_chunks.specs.Shown.{value, chunk, own, placed, Mark, Piece, fresh, leaf_keys}
use Rattle.map_nodes.specs.Levels.{Levels, nothing, parting, placed_levels, seen_levels, topped}
use Rattle.map_nodes.specs.declared.nodes.OwnChild.{OwnChild}
use Rattle.map_nodes.specs.declared.nodes.OwnChild.TheVariants.{Placed, Own}
use Rattle.map_nodes.specs.declared.nodes.Body.{Body}
use Rattle.map_nodes.specs.declared.nodes.Body.TheVariants.{Leaf, Inner}

-- children, each under its first key
abbrev pub Kids : Type 0
Kids = List (Bytes × OwnChild)

-- a child's pieces, where the children are so deep
abbrev pub child_pieces : ℕ → Bytes → OwnChild → List Piece
child_pieces below first (Placed at) = (first, chunk below at) ∷ []
child_pieces below first (Own n) = n.value.pieces

abbrev pub kids_pieces : ℕ → Kids → List Piece
kids_pieces below [] = []
kids_pieces below (e ∷ es) = child_pieces below e.0 e.1 ++ kids_pieces below es

abbrev pub row_pieces : Rows → List Piece
row_pieces rows = map (λ r. (r.0, value r.1)) rows

abbrev pub body_pieces : ℕ → List Bytes → Body → List Piece
body_pieces depth keys (Leaf values) = row_pieces (paired keys values.items)
body_pieces depth keys (Inner kids) = kids_pieces (depth - 1) (paired keys kids.items)

-- the first piece is under this key
abbrev pub HeadIs : Bytes → List Piece → Type 0
HeadIs k [] = ⊥
HeadIs k (q ∷ qs) = q.0 ≡ k

abbrev pub IsChild : ℕ → Bytes → OwnChild → Type 0
IsChild below first (Placed at) = Unit {0}
IsChild below first (Own n) = (n.value.depth ≡ below) × HeadIs first n.value.pieces

abbrev pub AllKids : ℕ → Kids → Type 0
AllKids below [] = Unit {0}
AllKids below (e ∷ es) = IsChild below e.0 e.1 × AllKids below es

abbrev pub IsBody : ℕ → List Bytes → Body → Type 0
IsBody depth keys (Leaf values) = (depth ≡ 1) × (length values.items ≡ length keys)
IsBody depth keys (Inner kids) = (0 < depth) × (0 < length keys) × (length kids.items ≡ length keys)
    × AllKids (depth - 1) (paired keys kids.items)

-- at most 16 keys in strict order, each with a value or a child; each child is one level below, under its first key
abbrev pub IsNode : ℕ → List Bytes → Body → Type 0
IsNode depth keys body = AreKeys keys × IsBody depth keys body

-- how deep own chunks are nested in it
abbrev pub child_height : OwnChild → ℕ
child_height (Placed at) = 1
child_height (Own n) = n.value.height + 1

abbrev pub kids_height : List OwnChild → ℕ
kids_height [] = 0
kids_height (k ∷ ks) = max (child_height k) (kids_height ks)

abbrev pub body_height : Body → ℕ
body_height (Leaf values) = 1
body_height (Inner kids) = kids_height kids.items + 2

-- how many own chunks it is
abbrev pub child_fresh : OwnChild → ℕ
child_fresh (Placed at) = 0
child_fresh (Own n) = fresh n.value

abbrev pub kids_fresh : List OwnChild → ℕ
kids_fresh [] = 0
kids_fresh (k ∷ ks) = child_fresh k + kids_fresh ks

-- marks one level further below
abbrev pub sunk : List Mark → List Mark
sunk [] = []
sunk (own at keys ∷ ms) = own (at + 1) keys ∷ sunk ms
sunk (placed at deep ref ∷ ms) = placed (at + 1) deep ref ∷ sunk ms

-- which chunks these are, where the children are so deep
abbrev pub child_marks : ℕ → OwnChild → List Mark
child_marks below (Placed at) = placed 0 below at ∷ []
child_marks below (Own n) = n.value.marks

abbrev pub kids_marks : ℕ → List OwnChild → List Mark
kids_marks below [] = []
kids_marks below (k ∷ ks) = child_marks below k ++ kids_marks below ks

abbrev pub body_marks : ℕ → List Bytes → Body → List Mark
body_marks depth keys (Leaf values) = own 0 (leaf_keys keys) ∷ []
body_marks depth keys (Inner kids) = own 0 (parting keys) ∷ sunk (kids_marks (depth - 1) kids.items)

-- a child, so deep where it is placed, and what is below it
abbrev pub child_levels : ℕ → OwnChild → Contents → Levels
child_levels below (Placed at) contents = placed_levels contents below (stamp_of at)
child_levels below (Own n) contents = seen_levels n.value contents

abbrev pub kids_levels : ℕ → List OwnChild → Contents → Levels
kids_levels below [] contents level = []
kids_levels below (k ∷ ks) contents level = child_levels below k contents level ++ kids_levels below ks contents level

-- a chunk by its parts, and what is below it
abbrev pub body_levels : ℕ → List Bytes → Body → Contents → Levels
body_levels depth keys (Leaf values) contents = topped (None, leaf_keys keys) nothing
body_levels depth keys (Inner kids) contents = topped (None, parting keys) (kids_levels (depth - 1) kids.items contents)
