-- What a put makes of the levels of children and halves, whatever is placed later.
use Rattle.std.specs.Prelude.{◌≡◌, ◌⊎◌, ℕ, ◌-◌, ◌≤◌, ◌∷◌, ◌++◌, [], List, Option, Some, None, IsSome, slice_set, length}
use Rattle.std.specs.Prelude.{take, drop}
use Rattle.std.specs.Ordering.{nat_cmp}
use Rattle.std.specs.Cmp.Lexicographic.{slice_cmp}
use Rattle.std.specs.FinMap.{find, put}
use mathlib.Core.List.{IsPrefix}
use Rattle.group_history.specs.Spelling.{Contents}
use Rattle.group_history.specs.Map.{Bytes}
use Rattle.group_history.specs.Rows.{Rows}
use Rattle.map_chunks.specs.Shown.{own, leaf_keys, Piece, Seen, rows_or, shown}
use Rattle.map_nodes.specs.Inside.Halves.{half_pieces, ChildPut}
use Rattle.map_nodes.specs.Inside.Nodes.{Kid}
use Rattle.map_nodes.specs.Levels.{Levels, nothing, parting, seen_levels, ArePut, HasOneMore, RenewedLater}
use Rattle.map_nodes.specs.Nodes.{child_levels, child_pieces, kids_marks, sunk}
use Rattle.map_nodes.specs.Others.{ArePutAmong}
use Rattle.map_nodes.specs.declared.nodes.OwnChild.{OwnChild}
use Rattle.map_nodes.specs.declared.nodes.OwnChild.TheVariants.{Own}
use Rattle.map_nodes.specs.declared.nodes.putting.Half.{Half}

-- an upper half, and what is below it
abbrev pub half_levels : Option Half → Contents → Levels
half_levels None contents = nothing
half_levels (Some h) contents = seen_levels h.node.value contents

-- the keys of a leaf and of its upper half, where it has one, are all these: it is whole, or has the first 8
abbrev pub AreLeafKeys : List Bytes → List Bytes → Option Half → Type 0
AreLeafKeys all keys None = keys ≡ all
AreLeafKeys all keys (Some h) = (length all ≡ 17) × (keys ≡ take 8 all)
    × (h.node.value.marks ≡ own 0 (leaf_keys (drop 8 all)) ∷ [])

-- a leaf has the keys that it had, or one more
abbrev pub IsLeafPut : List Bytes → List Bytes → Option Half → Type 0
IsLeafPut old new half = ((new ≡ old) × (half ≡ None))
    ⊎ ((all : List Bytes) × HasOneMore old all × (length old ≤ 16) × AreLeafKeys all new half)

-- The keys and children of a chunk that is so deep, and those of the upper half that was split off it, if one was, are
-- all these: it is whole, or has the first 8.
abbrev pub IsHalved : ℕ → List Bytes → List OwnChild → Option Half → List Bytes → List OwnChild → Type 0
IsHalved deep keys kids None firsts all = (keys ≡ firsts) × (kids ≡ all)
IsHalved deep keys kids (Some h) firsts all = (length firsts ≡ 17) × (keys ≡ take 8 firsts)
    × ((upper : List OwnChild) × (kids ++ upper ≡ all)
    × (h.node.value.marks ≡ own 0 (parting (drop 8 firsts)) ∷ sunk (kids_marks (deep - 1) upper)))

-- a put made of a chunk this one and its upper half
abbrev pub HalvesPut : Contents → Seen → Seen → Option Half → Type 0
HalvesPut contents old new half = (later : Contents) → IsPrefix contents later
    → ArePut old.depth (seen_levels old later) (λ level. seen_levels new later level ++ half_levels half later level)

-- a put made of the child at a place an own one and its upper half
abbrev pub ChildHalvesPut : Contents → ℕ → ℕ → List OwnChild → List OwnChild → OwnChild → Option Half → Type 0
ChildHalvesPut contents below place old new child half = (n : Kid) × (new ≡ slice_set old place (Own n))
    × ((later : Contents) → IsPrefix contents later → ArePut below (child_levels below child later)
    (λ level. seen_levels n.value later level ++ half_levels half later level))

-- the value at a key, of the rows that are shown
abbrev pub shown_at : Option Rows → Bytes → Option Bytes
shown_at rows key = find (slice_cmp nat_cmp) key (rows_or rows)

-- where the key was there, it had another value, and the leaf has the keys that it had, and no upper half
abbrev pub HasReplacedRow : Option Bytes → Bytes → List Bytes → List Bytes → Option Half → Type 0
HasReplacedRow found value old new half = IsSome found → (found ≡ Some value → ⊥) × (new ≡ old) × (half ≡ None)

-- Where the key was there, it had another value, and the chunk, which is so deep, isn't split: one on each level at
-- most is new, with the same keys.
abbrev pub HasReplaced : Contents → Option Bytes → Bytes → ℕ → (Contents → Levels) → (Contents → Levels)
    → Option Half → Type 0
HasReplaced contents found value deep old new half = IsSome found → (found ≡ Some value → ⊥)
    × (half ≡ None) × RenewedLater contents deep old new

-- an own child stands at the place of this one, of which the same holds
abbrev pub ChildReplaced : Contents → Option Bytes → Bytes → ℕ → ℕ → List OwnChild → List OwnChild → OwnChild
    → Option Half → Type 0
ChildReplaced contents found value below place old new child half = (n : Kid) × (new ≡ slice_set old place (Own n))
    × HasReplaced contents found value below (child_levels below child) (seen_levels n.value) half

-- A value is put in an own chunk: what it and its upper half show then, which of its pieces are the same, and what
-- holds where the key was there.
pub record IsOwnPut (contents : Contents) (key value : Bytes) (rows : Option Rows) (old new : List Piece)
    (deep : ℕ) (was now : Contents → Levels) (half : Option Half) : Type 0 where
  pub shown_is : shown contents (new ++ half_pieces half) ≡ Some (put (slice_cmp nat_cmp) key value (rows_or rows))
  pub others : ArePutAmong contents key value old (new ++ half_pieces half)
  pub renewed : HasReplaced contents (shown_at rows key) value deep was now half

-- A value is put in the child at a place, which is under this first key.
pub record IsChildPut (contents : Contents) (copies below place : ℕ) (first key value : Bytes) (rows : Option Rows)
    (old new : List OwnChild) (child : OwnChild) (half : Option Half) : Type 0 where
  pub done : ChildPut contents copies below place old new half
      (Some (put (slice_cmp nat_cmp) key value (rows_or rows)))
  pub others : ArePutAmong contents key value (child_pieces below first child)
      (done.0.value.pieces ++ half_pieces half)
  pub renewed : ChildReplaced contents (shown_at rows key) value below place old new child half
