-- A scan along placed chunks, and the lowest key that it may have.
use Rattle.std.specs.Prelude.{◌≡◌, ◌≤◌, ℕ, true, List, [], ◌∷◌, map, Option, Some, None, if◌then◌else◌}
use Rattle.group_history.specs.declared.scans.Scan.{Scan}
use Rattle.group_history.specs.Scans.{is_in}
use Rattle.group_history.specs.declared.nodes.Chunk.{Chunk}
use Rattle.group_history.specs.declared.nodes.Chunk.TheVariants.{Leaf, Inner}
use Rattle.group_history.specs.declared.refs.Ref.{Ref}
use Rattle.group_history.specs.Map.{Bytes}
use Rattle.group_history.specs.Refs.{stamp_of}
use Rattle.group_history.specs.Rows.{Rows}
use Rattle.group_history.specs.Spelling.{Contents, joined_rows}
use Rattle.map_chunks.specs.Search.{is_above}
use Rattle.map_chunks.specs.Shown.{chunk_rows}

-- the greater of two keys
abbrev pub greater : Bytes → Bytes → Bytes
greater x y = if is_above x y then x else y

-- the rows of placed children
abbrev pub children_rows : Contents → List (Bytes × Ref) → Option Rows
children_rows contents children = joined_rows (map (λ e. (e.0, chunk_rows contents (stamp_of e.1))) children)

-- the rows of a chunk whose children are placed
abbrev pub opened_rows : Contents → Chunk Ref → Option Rows
opened_rows contents (Leaf rows) = Some rows
opened_rows contents (Inner children) = children_rows contents children

-- there is room for so many
abbrev pub CanTake : Option ℕ → ℕ → Type 0
CanTake None n = Unit {0}
CanTake (Some room) n = n ≤ room

-- each of these keys is in the scan
abbrev pub AreIn : Scan → List Bytes → Type 0
AreIn scan [] = Unit {0}
AreIn scan (k ∷ ks) = (is_in scan k ≡ true) × AreIn scan ks
