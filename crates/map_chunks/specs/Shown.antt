-- What a chunk of a draft shows, given what is placed.
use Rattle.std.specs.Prelude.{ℕ, ◌+◌, List, [], ◌∷◌, map, Option, Some, None, T, option_map, if◌then◌else◌}
use Rattle.std.specs.Ordering.{nat_cmp}
use Rattle.std.specs.Cmp.Lexicographic.{slice_cmp}
use Rattle.std.specs.FinMap as finite
use Rattle.group_history.specs.declared.refs.Ref.{Ref}
use Rattle.group_history.specs.Map.{Bytes, Entries}
use Rattle.group_history.specs.Refs.{stamp_of}
use Rattle.group_history.specs.Rows.{Rows}
use Rattle.group_history.specs.Spelling.{Contents, Segment, segment_at, rows_at, joined_rows}

-- what stands under a key: the value of a row, or a placed chunk that is so deep
pub data Part : Type 0 where
  value : Bytes → Part
  chunk : ℕ → Ref → Part

abbrev pub Piece : Type 0
Piece = Bytes × Part

abbrev pub part_rows : Contents → Bytes → Part → Option Rows
part_rows contents key (value v) = Some ((key, v) ∷ [])
part_rows contents key (chunk depth at) = rows_at contents depth (stamp_of at)

-- the rows of pieces one after another
abbrev pub shown : Contents → List Piece → Option Rows
shown contents pieces = joined_rows (map (λ q. (q.0, part_rows contents q.0 q.1)) pieces)

-- the rows of a placed chunk, however deep it is
abbrev pub chunk_rows : Contents → ℕ → Option Rows
chunk_rows contents stamp = option_map (λ (s : Segment). s.rows) (segment_at contents stamp)

-- there are rows, and their keys are in strict order
abbrev pub IsTree : Option Rows → Type 0
IsTree None = ⊥
IsTree (Some rows) = T (finite.is_sorted (slice_cmp nat_cmp) rows)

abbrev pub rows_or : Option Rows → Rows
rows_or None = []
rows_or (Some rows) = rows

-- the map of such rows
abbrev pub map_of_rows : Rows → Option Entries
map_of_rows rows = if finite.is_sorted (slice_cmp nat_cmp) rows then Some (finite.from_sorted rows) else None

-- The keys of a chunk: those of a leaf; or those that part an inner chunk's children, the first key of each but the
-- first child.
pub data Shape : Type 0 where
  leaf_keys : List Bytes → Shape
  child_keys : List Bytes → Shape

-- a chunk so far below the first one: an own one with these keys, or a placed one that is so deep
pub data Mark : Type 0 where
  own : ℕ → Shape → Mark
  placed : ℕ → ℕ → Ref → Mark

-- how many of these are own ones
abbrev pub owned : List Mark → ℕ
owned [] = 0
owned (own at keys ∷ ms) = owned ms + 1
owned (placed at deep ref ∷ ms) = owned ms

-- A chunk of a draft as clauses see it: how deep it is, a leaf being 1 deep; how many keys it has; its pieces in order;
-- how deep its own chunks are nested; and which chunks it is, itself and placed ones included, each before those below
-- it.
pub record Seen : Type 0 where
  pub depth : ℕ
  pub entries : ℕ
  pub pieces : List Piece
  pub height : ℕ
  pub marks : List Mark

-- how many new chunks it is, itself counted
abbrev pub fresh : Seen → ℕ
fresh n = owned n.marks
