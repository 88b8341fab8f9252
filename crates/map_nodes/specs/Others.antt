-- What a put leaves alone of the pieces of a draft's chunks.
use Rattle.std.specs.Prelude.{◌≡◌, List, [], ◌∷◌, ◌++◌, Option, Some, None}
use Rattle.std.specs.Ordering.{nat_cmp}
use Rattle.std.specs.Cmp.Lexicographic.{slice_cmp}
use Rattle.std.specs.FinMap.{put}
use Rattle.group_history.specs.Map.{Bytes}
use Rattle.group_history.specs.Rows.{Rows}
use Rattle.group_history.specs.Spelling.{Contents}
use Rattle.map_chunks.specs.Shown.{Piece, part_rows, rows_or, shown}

-- a piece, if there is one
abbrev pub option_piece : Option Piece → List Piece
option_piece None = []
option_piece (Some q) = q ∷ []

-- its rows
abbrev pub option_rows : Contents → Option Piece → Rows
option_rows contents None = []
option_rows contents (Some q) = rows_or (part_rows contents q.0 q.1)

-- In the place of one piece at most, a row or a placed chunk with all that is below it, stand others. They show its
-- rows with a value put at a key. All other pieces are the same.
abbrev pub ArePutAmong : Contents → Bytes → Bytes → List Piece → List Piece → Type 0
ArePutAmong contents key value old new = (before : List Piece) × (gone : Option Piece) × (made : List Piece)
    × (after : List Piece) × (old ≡ before ++ (option_piece gone ++ after)) × (new ≡ before ++ (made ++ after))
    × (shown contents made ≡ Some (put (slice_cmp nat_cmp) key value (option_rows contents gone)))
