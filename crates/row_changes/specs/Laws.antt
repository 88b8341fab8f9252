-- What is proved of the changes between two lists of rows.
use Rattle.std.specs.Prelude.{◌≡◌, List, Option, Some, None}
use Rattle.group_history.specs.Map.{Bytes}
use Rattle.group_history.specs.Rows.{Rows}
use Rattle.row_changes.specs.declared.changes.RowChange.{RowChange}
use Rattle.row_changes.specs.Changes.{Values, AreChanges, change_at, value_in}

-- the value of a key after what is told of it; as it was where nothing is told
abbrev pub laid : Option Values → Option Bytes → Option Bytes
laid None old = old
laid (Some values) old = values.1

pub record ChangesLaws : Type 0 where
  -- two lists that are the changes of the same rows are one
  pub once : (old new : Rows) (cs ds : List RowChange) → AreChanges old new cs → AreChanges old new ds → cs ≡ ds
  -- laid over the old rows the changes give the new ones, at each key
  pub applied : (old new : Rows) (cs : List RowChange) → AreChanges old new cs → (key : Bytes)
      → laid (change_at cs key) (value_in old key) ≡ value_in new key
