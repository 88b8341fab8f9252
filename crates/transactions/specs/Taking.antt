-- Rows that were taken beside others.
use Rattle.std.specs.Prelude.{take}
use Rattle.group_history.specs.Rows.{Rows}
use Rattle.transactions.specs.declared.beside.CollectedRows.{CollectedRows}
use Rattle.transactions.specs.declared.beside.CollectedRows.TheVariants.{First, Own}

-- the rows that were taken: so many of the first ones before, or others
abbrev pub taken_rows : Rows → CollectedRows → Rows
taken_rows before (First count) = take count before
taken_rows before (Own rows) = rows.items
