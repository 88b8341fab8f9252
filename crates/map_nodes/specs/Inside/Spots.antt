-- Where on a trail a key belongs.
use Rattle.std.specs.Prelude.{◌≡◌, List, Option, Some, None}
use Rattle.std.specs.Arc.{arc_value}
use Rattle.std.specs.List.{Contains}
use Rattle.std.specs.Ordering.{nat_cmp}
use Rattle.std.specs.Cmp.Lexicographic.{slice_cmp}
use Rattle.std.specs.FinMap.{find}
use Rattle.group_history.specs.declared.refs.Ref.{Ref}
use Rattle.group_history.specs.Map.{Bytes}
use Rattle.group_history.specs.Refs.{stamp_of}
use Rattle.group_history.specs.Rows.{paired}
use Rattle.group_history.specs.Spelling.{Contents}
use Rattle.map_chunks.specs.Places.{places_of}
use Rattle.map_chunks.specs.Shown.{Piece, chunk_rows, shown, rows_or, IsTree}
use Rattle.map_nodes.specs.declared.nodes.trails.End.{End}

-- What these pieces have at the key is in the leaf, or below a placed chunk, which is one of them.
abbrev pub IsSpot : Contents → Bytes → List Piece → End → Option Ref → Type 0
IsSpot contents key pieces e None = find (slice_cmp nat_cmp) key (paired (arc_value e.keys) e.values.items)
    ≡ find (slice_cmp nat_cmp) key (rows_or (shown contents pieces))
IsSpot contents key pieces e (Some at) = IsTree (chunk_rows contents (stamp_of at))
    × (find (slice_cmp nat_cmp) key (rows_or (chunk_rows contents (stamp_of at)))
    ≡ find (slice_cmp nat_cmp) key (rows_or (shown contents pieces)))
    × Contains (places_of pieces) at
