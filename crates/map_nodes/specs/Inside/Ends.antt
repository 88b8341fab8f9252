-- What a draft's chunks with one child each end in.
use Rattle.std.specs.Prelude.{◌≡◌, ◌+◌, ℕ, zero, suc, List, [], ◌∷◌, Option, Some, None}
use mathlib.Core.List.{IsPrefix}
use Rattle.group_history.specs.declared.refs.Ref.{Ref}
use Rattle.group_history.specs.Refs.{stamp_of}
use Rattle.group_history.specs.Rows.{Rows}
use Rattle.group_history.specs.Spelling.{Contents}
use Rattle.map_chunks.specs.Shown.{Part, value, chunk, Piece, Seen}
use Rattle.map_chunks.specs.Wide.{IsWideChunk}
use Rattle.map_nodes.specs.declared.nodes.OwnChild.{OwnChild}
use Rattle.map_nodes.specs.declared.nodes.OwnChild.TheVariants.{Placed, Own}
use Rattle.map_chunks.specs.Ends.{IsEnd}
use Rattle.map_chunks.specs.Seeking.{chunk_depth}
use Rattle.map_nodes.specs.Levels.{Levels, Member, placed_levels, seen_levels}

-- the placed chunk of a piece
abbrev pub part_ref : Part → Option Ref
part_ref (value v) = None
part_ref (chunk depth at) = Some at

-- the placed chunk that is all there is below a draft's chunk, if this is so: then each chunk on the way to it has one
-- child
abbrev pub end_of_pieces : List Piece → Option Ref
end_of_pieces [] = None
end_of_pieces (q ∷ []) = part_ref q.1
end_of_pieces (q ∷ r ∷ qs) = None

abbrev pub end_of : OwnChild → Option Ref
end_of (Placed at) = Some at
end_of (Own n) = end_of_pieces n.value.pieces

-- a child with these rows ends in a placed chunk, or in one of the draft's own
abbrev pub IsKidEnd : Contents → Option Rows → OwnChild → Option Ref → Type 0
IsKidEnd contents rows kid None = end_of kid ≡ None
IsKidEnd contents rows kid (Some at) = IsEnd contents rows at

-- one chunk with one child stands on each of so many levels, and these are below them
abbrev pub Narrows : ℕ → Levels → Levels → Type 0
Narrows zero levels below = (level : ℕ) → levels level ≡ below level
Narrows (suc many) levels below = (chunk : Member) × (levels 0 ≡ chunk ∷ [])
    × Narrows many (λ level. levels (suc level)) below

-- whatever is placed later, and however many chunks these are
abbrev pub NarrowsLater : Contents → ℕ → ℕ → (Contents → Levels) → (Contents → Levels) → Type 0
NarrowsLater contents was deep old new = (many : ℕ) × (many + deep ≡ was)
    × ((later : Contents) → IsPrefix contents later → Narrows many (old later) (new later))

-- what a draft's own child ends in: it shows the same, is wide, and has the chunks of the child behind those with one
-- child each
abbrev pub IsEndTaken : OwnChild → Seen → Type 0
IsEndTaken (Placed at) n = ⊥
IsEndTaken (Own m) n = (n.pieces ≡ m.value.pieces) × IsWideChunk n
    × NarrowsLater [] m.value.depth n.depth (seen_levels m.value) (seen_levels n)

-- the placed chunk that is all there is below a draft's chunk, if this is so, stands behind chunks with one child each
abbrev pub IsPartBelow : ℕ → (Contents → Levels) → Part → Type 0
IsPartBelow depth levels (value v) = Unit {0}
IsPartBelow depth levels (chunk d at) = NarrowsLater [] depth d levels (λ p. placed_levels p d (stamp_of at))

abbrev pub IsEndBelow : ℕ → (Contents → Levels) → List Piece → Type 0
IsEndBelow depth levels [] = Unit {0}
IsEndBelow depth levels (q ∷ []) = IsPartBelow depth levels q.1
IsEndBelow depth levels (q ∷ r ∷ qs) = Unit {0}

abbrev pub IsKidBelow : OwnChild → Type 0
IsKidBelow (Placed at) = Unit {0}
IsKidBelow (Own n) = IsEndBelow n.value.depth (seen_levels n.value) n.value.pieces

-- a placed chunk stands behind chunks with one child each, of which the first is so deep
abbrev pub EndsAtChunk : Contents → ℕ → (Contents → Levels) → Ref → Type 0
EndsAtChunk contents depth levels at = (deep : ℕ) × (chunk_depth contents (stamp_of at) ≡ Some deep)
    × NarrowsLater contents depth deep levels (λ p. placed_levels p deep (stamp_of at))

-- so does a placed chunk, if there is one
abbrev pub IfEndsAt : Contents → ℕ → (Contents → Levels) → Option Ref → Type 0
IfEndsAt contents depth levels None = Unit {0}
IfEndsAt contents depth levels (Some at) = EndsAtChunk contents depth levels at
