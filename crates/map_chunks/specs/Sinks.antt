-- What takes rows, one behind another.
use Rattle.std.specs.Prelude.{ℕ, ◌++◌, take}
use Rattle.group_history.specs.Rows.{Rows}

-- whatever rows the sink had, it has these behind them
abbrev pub HasMore : {S : Type 0} → (S → Rows → Type 0) → S → S → Rows → Type 0
HasMore {S} has old new more = (rows : Rows) → has old rows → has new (rows ++ more)

-- whatever rows the sink had, it has still
abbrev pub HasStill : {S : Type 0} → (S → Rows → Type 0) → S → S → Type 0
HasStill {S} has old new = (rows : Rows) → has old rows → has new rows

-- behind the rows that it had, the sink has a beginning of these
abbrev pub HasBegun : {S : Type 0} → (S → Rows → Type 0) → S → S → Rows → Type 0
HasBegun {S} has old new more = (n : ℕ) × HasMore has old new (take n more)
