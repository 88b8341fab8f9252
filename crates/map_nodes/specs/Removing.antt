-- What a map shows once a key is removed, what its root is then, and of which chunks it consists.
use Rattle.std.specs.Prelude.{◌≡◌, ℕ, not, filter, List, [], ◌∷◌, Option, Some, None}
use Rattle.std.specs.Ordering.{nat_cmp, is_eq}
use Rattle.std.specs.Cmp.Lexicographic.{slice_cmp}
use Rattle.group_history.specs.Map.{Bytes}
use Rattle.group_history.specs.declared.refs.Ref.{Ref}
use Rattle.group_history.specs.Refs.{stamp_of}
use Rattle.group_history.specs.Rows.{Rows}
use Rattle.group_history.specs.Spelling.{Contents}
use Rattle.map_chunks.specs.Places.{places_of}
use Rattle.map_chunks.specs.Seeking.{chunk_depth}
use Rattle.map_chunks.specs.Shown.{Seen, shown, chunk_rows}
use Rattle.map_chunks.specs.Wide.{IsWideAt, IsWideChunk}
use Rattle.map_nodes.specs.Levels.{Levels, RemovedLater, placed_levels, seen_levels}

-- rows without that of a key
abbrev pub without_key : Bytes → Rows → Rows
without_key key rows = filter (λ r. not (is_eq (slice_cmp nat_cmp key r.0))) rows

-- what a root shows: a placed chunk, if there is one, else the draft's
abbrev pub root_rows : Contents → Seen → Option Ref → Option Rows
root_rows contents n None = shown contents n.pieces
root_rows contents n (Some at) = chunk_rows contents (stamp_of at)

abbrev pub IsWideRoot : Contents → Seen → Option Ref → Type 0
IsWideRoot contents n None = IsWideChunk n
IsWideRoot contents n (Some at) = IsWideAt contents (stamp_of at)

-- the placed chunks that a root names: itself, if it is placed, else those that the draft's own names
abbrev pub root_left : Seen → Option Ref → List Ref
root_left n None = places_of n.pieces
root_left n (Some at) = at ∷ []

-- what a removal makes of the chunks of a root that was so deep: those of a placed one, if it gave way to that, else
-- the draft's
abbrev pub IsRootRemoved : Contents → ℕ → (Contents → Levels) → Seen → Option Ref → Type 0
IsRootRemoved contents was old n None = RemovedLater was n.depth contents old (seen_levels n)
IsRootRemoved contents was old n (Some at) = (deep : ℕ) × (chunk_depth contents (stamp_of at) ≡ Some deep)
    × RemovedLater was deep contents old (λ p. placed_levels p deep (stamp_of at))
