-- The way down from a placed chunk to a key, and the new chunks that are made on the way up.
use Rattle.std.specs.Prelude.{◌≡◌, Bool, true, ℕ, ◌+◌, ◌-◌, ◌^◌, ◌≤◌, ◌<◌, List, [], ◌∷◌, ◌++◌, length}
use Rattle.std.specs.Prelude.{slice_index_or, slice_set, Option, Some, None, IsSome}
use Rattle.std.specs.Arc.{arc_value}
use Rattle.std.specs.Ordering.{nat_cmp}
use Rattle.std.specs.Cmp.Lexicographic.{slice_cmp}
use Rattle.std.specs.FinMap.{find, put}
use mathlib.Core.List.{IsPrefix}
use Rattle.group_history.specs.declared.mutators.Update.{Update}
use Rattle.group_history.specs.declared.mutators.Update.TheVariants.{Put, Refuse}
use Rattle.group_history.specs.declared.refs.Ref.{Ref}
use Rattle.group_history.specs.Map.{Bytes}
use Rattle.group_history.specs.Rows.{Rows, AreKeys, keys_of, values_of, paired}
use Rattle.group_history.specs.Spelling.{Contents}
use Rattle.map_chunks.specs.Places.{AreKept, places_of}
use Rattle.map_chunks.specs.Search.{IsPlace}
use Rattle.map_chunks.specs.Shown.{own, leaf_keys, Seen, shown}
use Rattle.map_chunks.specs.Wide.{IsWideAt, IsWideChunk}
use Rattle.map_nodes.specs.Inside.Counts.{HasKept}
use Rattle.map_nodes.specs.Inside.Halves.{half_pieces, lowered, with_half, Finished, IsHalf, IsLower}
use Rattle.map_nodes.specs.Inside.Nodes.{Kid}
use Rattle.map_nodes.specs.Inside.Puts.{half_levels, IsHalved, IsLeafPut}
use Rattle.map_nodes.specs.Inside.Ready.{Suits}
use Rattle.map_nodes.specs.Levels.{parting, placed_levels, seen_levels, ArePut, RenewedLater}
use Rattle.map_nodes.specs.Nodes.{Kids, kids_height, kids_marks, kids_pieces, row_pieces, sunk}
use Rattle.map_nodes.specs.Trails.{placed_kids, steps_seen, trail_seen, AreSteps, IsTrailEnd}
use Rattle.map_nodes.specs.declared.nodes.OwnChild.{OwnChild}
use Rattle.map_nodes.specs.declared.nodes.OwnChild.TheVariants.{Own}
use Rattle.map_nodes.specs.declared.nodes.putting.Half.{Half}
use Rattle.map_nodes.specs.declared.nodes.trails.End.{End}
use Rattle.map_nodes.specs.declared.nodes.trails.Step.{Step}
use Rattle.map_nodes.specs.declared.nodes.trails.laying.Laying.{Laying}
use Rattle.map_nodes.specs.declared.nodes.trails.laying.Reached.{Reached}
use Rattle.map_nodes.specs.declared.nodes.trails.laying.Reached.TheVariants.{Same, Refused, Laid, Grown}

-- a leaf with these keys and values
abbrev pub rows_seen : List Bytes → List Bytes → Seen
rows_seen keys values = record {
  depth = 1;
  entries = length keys;
  pieces = row_pieces (paired keys values);
  height = 1;
  marks = own 0 (leaf_keys keys) ∷ [];
}

-- a leaf's rows with a value put at a key
abbrev pub IsPutEnd : Rows → Bytes → Bytes → End → Type 0
IsPutEnd rows key value e = IsTrailEnd e
    × (paired (arc_value e.keys) e.values.items ≡ put (slice_cmp nat_cmp) key value rows)

-- an inner chunk copied, the place of the child to which a key belongs, and that child's first key lowered to the key
-- where that is below it
abbrev pub IsCopiedStep : List (Bytes × Ref) → Bytes → Step → Type 0
IsCopiedStep kids key s = (s.children.items ≡ values_of kids) × IsPlace key (keys_of kids) s.place
    × AreKeys (arc_value s.keys) × ((lower : Option Bytes)
    × IsLower key (slice_index_or (keys_of kids) s.place []) lower
    × (arc_value s.keys ≡ lowered s.place lower (keys_of kids)))

-- A leaf made of one with these rows by a put, and its upper half where it was split.
pub record IsMadeLeaf (copies : ℕ) (rows : Rows) (key value : Bytes) (n : Seen) (half : Option Half) : Type 0 where
  pub depth_is : n.depth ≡ 1
  pub pieces_are : n.pieces ++ half_pieces half ≡ row_pieces (put (slice_cmp nat_cmp) key value rows)
  pub half_is : IsHalf copies 1 half
  pub filled : 0 < length n.pieces
  pub keys : (keys : List Bytes) × (n.marks ≡ own 0 (leaf_keys keys) ∷ [])
      × HasKept (length rows) (length keys) half × IsLeafPut (keys_of rows) keys half
  pub renewed : IsSome (find (slice_cmp nat_cmp) key rows)
      → (half ≡ None) × (n.marks ≡ own 0 (leaf_keys (keys_of rows)) ∷ [])

-- A chunk made of the placed one of a stamp, which is so deep and has these rows, by a put: it is as deep, and its
-- upper half is beside it where it was split.
pub record IsBuilt (contents : Contents) (places : Ref → Type 0) (copies stamp depth : ℕ) (rows : Rows)
    (key value : Bytes) (n : Seen) (half : Option Half) : Type 0 where
  pub depth_is : n.depth ≡ depth
  pub shown_is : shown contents (n.pieces ++ half_pieces half) ≡ Some (put (slice_cmp nat_cmp) key value rows)
  pub half_is : IsHalf copies depth half
  pub filled : 0 < length n.pieces
  pub replaced : IsSome (find (slice_cmp nat_cmp) key rows) → (half ≡ None)
      × RenewedLater contents depth (λ p. placed_levels p depth stamp) (seen_levels n)
  pub levels : (later : Contents) → IsPrefix contents later → ArePut depth (placed_levels later depth stamp)
      (λ level. seen_levels n later level ++ half_levels half later level)
  pub kept : AreKept places [] (places_of (n.pieces ++ half_pieces half))
  pub wide : IsWideAt contents stamp → IsWideChunk n

-- The key has the value that is put already, or nothing is put; or it has another value, in a leaf of a trail or in an
-- own one.
abbrev pub IsLeafEnd : ℕ → Bool → Rows → Bytes → Update → Reached → Laying → Type 0
IsLeafEnd copies as_trail rows key u Same l = (v : Bytes) × (u ≡ Put v)
    × (find (slice_cmp nat_cmp) key rows ≡ Some v)
IsLeafEnd copies as_trail rows key u (Refused code) l = u ≡ Refuse code
IsLeafEnd copies as_trail rows key u Laid l = (v : Bytes) × (u ≡ Put v)
    × (find (slice_cmp nat_cmp) key rows ≡ Some v → ⊥) × (as_trail ≡ true) × (l.steps.items ≡ [])
    × ((e : End) × (l.end ≡ Some e) × IsTrailEnd e × IsMadeLeaf copies rows key v (trail_seen [] e) None)
IsLeafEnd copies as_trail rows key u (Grown n half) l = (v : Bytes) × (u ≡ Put v)
    × (find (slice_cmp nat_cmp) key rows ≡ Some v → ⊥)
    × IsMadeLeaf copies rows key v n.value half

-- The same of the placed chunk of a stamp, which has these rows and may be so deep. The steps of new chunks are listed
-- from the lowest to the topmost.
abbrev pub IsChunkEnd : Contents → (Ref → Type 0) → ℕ → Bool → ℕ → Option ℕ → Rows → Bytes → Update → Reached
    → Laying → Type 0
IsChunkEnd contents places copies as_trail stamp depth rows key u Same l = (v : Bytes) × (u ≡ Put v)
    × (find (slice_cmp nat_cmp) key rows ≡ Some v)
IsChunkEnd contents places copies as_trail stamp depth rows key u (Refused code) l = u ≡ Refuse code
IsChunkEnd contents places copies as_trail stamp depth rows key u Laid l = (v : Bytes) × (u ≡ Put v)
    × (find (slice_cmp nat_cmp) key rows ≡ Some v → ⊥) × (as_trail ≡ true)
    × ((deep : ℕ) × (depth ≡ Some deep) × ((e : End) × (l.end ≡ Some e) × AreSteps l.steps.items e
    × IsBuilt contents places copies stamp deep rows key v (steps_seen l.steps.items e) None))
IsChunkEnd contents places copies as_trail stamp depth rows key u (Grown n half) l = (v : Bytes)
    × (u ≡ Put v) × (find (slice_cmp nat_cmp) key rows ≡ Some v → ⊥)
    × ((deep : ℕ) × (depth ≡ Some deep) × (deep ≤ stamp + 1)
    × IsBuilt contents places copies stamp deep rows key v n.value half)

-- A STEP UP

-- an own inner chunk by its keys and children
abbrev pub inner_seen : ℕ → List Bytes → List OwnChild → Seen
inner_seen depth keys kids = record {
  depth = depth;
  entries = length keys;
  pieces = kids_pieces (depth - 1) (paired keys kids);
  height = kids_height kids + 2;
  marks = own 0 (parting keys) ∷ sunk (kids_marks (depth - 1) kids);
}

-- placed children with an own one in the place of one of them
abbrev pub kids_over : List (Bytes × Ref) → ℕ → Kid → List OwnChild
kids_over kids place kid = slice_set (placed_kids (values_of kids)) place (Own kid)

-- the same under their first keys, with the upper half of the own child behind it
abbrev pub entries_over : List (Bytes × Ref) → ℕ → Option Bytes → Kid → Option Half → Kids
entries_over kids place lower kid half =
    with_half place half (paired (lowered place lower (keys_of kids)) (kids_over kids place kid))

-- An own child fits in the place of one of these placed children, with its upper half behind it, whatever room it is
-- in.
pub record CanGrowOver (copies : ℕ) (kids : List (Bytes × Ref)) (key : Bytes) (place : ℕ) (child : Seen)
    (half : Option Half) : Type 0 where
  pub deep : child.depth + 1 < 2 ^ 64
  pub half_is : IsHalf (copies + 1) child.depth half
  pub fits : (lower : Option Bytes) (kid : Kid) → IsLower key (slice_index_or (keys_of kids) place []) lower
      → kid.value ≡ child
      → Suits (child.depth + 1) place (lowered place lower (keys_of kids)) (kids_over kids place kid) half

-- An own chunk, so deep, over these placed children, with an own child in the place of one and that child's upper half
-- behind it. Where they are 17, the upper half of the chunk has the last 9.
pub record IsGrownOver (copies depth : ℕ) (kids : List (Bytes × Ref)) (key : Bytes) (place : ℕ) (child : Seen)
    (half : Option Half) (n : Seen) (made : Option Half) : Type 0 where
  pub lower : Option Bytes
  pub kid : Kid
  pub keys : List Bytes
  pub children : List OwnChild
  pub first : IsLower key (slice_index_or (keys_of kids) place []) lower
  pub child_is : kid.value ≡ child
  pub is : n ≡ inner_seen depth keys children
  pub shape : Finished depth (entries_over kids place lower kid half) keys children made
  pub half_is : IsHalf copies depth made
  pub entries : HasKept (length kids) (length keys) made
  pub parted : IsHalved depth keys children made (keys_of (entries_over kids place lower kid half))
      (values_of (entries_over kids place lower kid half))
  pub whole : half ≡ None → made ≡ None

-- a way ends in such a chunk, with its upper half
abbrev pub IsGrownUp : ℕ → List (Bytes × Ref) → Bytes → ℕ → Seen → Option Half → Reached → Type 0
IsGrownUp copies kids key place child half r = (n : Kid) × (made : Option Half) × (r ≡ Grown n made)
    × IsGrownOver copies (child.depth + 1) kids key place child half n.value made

-- where own chunks were made below, the topmost fits in the place of the child
abbrev pub CanStep : ℕ → List (Bytes × Ref) → Bytes → ℕ → Reached → Type 0
CanStep copies kids key place Same = Unit {0}
CanStep copies kids key place (Refused code) = Unit {0}
CanStep copies kids key place Laid = Unit {0}
CanStep copies kids key place (Grown child half) = CanGrowOver copies kids key place child.value half

-- what a way ends in that goes through an inner chunk with these children, where it ends so below the one at a place
abbrev pub IsStepped : ℕ → List (Bytes × Ref) → Bytes → ℕ → Reached → Reached → Laying → Laying → Type 0
IsStepped copies kids key place Same r old new = r ≡ Same
IsStepped copies kids key place (Refused code) r old new = r ≡ Refused code
IsStepped copies kids key place Laid r old new = (r ≡ Laid) × (new.end ≡ old.end)
    × ((s : Step) × IsCopiedStep kids key s × (s.place ≡ place) × (new.steps.items ≡ old.steps.items ++ s ∷ []))
IsStepped copies kids key place (Grown child half) r old new = IsGrownUp copies kids key place child.value half r
