-- The second key of a chunk's rows.
use Rattle.std.specs.Prelude.{Option, slice_get}
use Rattle.group_history.specs.Map.{Bytes}
use Rattle.group_history.specs.Rows.{Rows, keys_of}

-- none where there are fewer than two rows
abbrev pub second_key : Rows → Option Bytes
second_key rows = slice_get (keys_of rows) 1
