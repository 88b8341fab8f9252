-- What single rows are told as.
use Rattle.std.specs.Prelude.{List, [], ◌∷◌, Some, None, if◌then◌else◌}
use Rattle.group_history.specs.Map.{Bytes, same_text}
use Rattle.row_changes.specs.declared.changes.RowChange.{RowChange}

-- a row that is not there any more
abbrev pub removal : Bytes × Bytes → RowChange
removal row = record { key = row.0; old = Some row.1; new = None }

-- a row that was not there
abbrev pub addition : Bytes × Bytes → RowChange
addition row = record { key = row.0; old = None; new = Some row.1 }

-- two rows of one key
abbrev pub replacement : Bytes × Bytes → Bytes × Bytes → RowChange
replacement old new = record { key = old.0; old = Some old.1; new = Some new.1 }

-- what is told of two rows of one key: nothing where their values are one
abbrev pub met : Bytes × Bytes → Bytes × Bytes → List RowChange
met old new = if same_text old.1 new.1 then [] else replacement old new ∷ []
