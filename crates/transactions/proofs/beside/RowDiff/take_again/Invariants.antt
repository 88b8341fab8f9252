use Rattle.std.proofs.Common.{◌≡◌, ◌++◌, take, drop}
use Rattle.transactions.specs.Taking.{taken_rows}
use Rattle.transactions.proofs.beside.RowDiff.take_again.Given as goal

abbrev pub invariant-loop-row : goal.invariant-loop-row
invariant-loop-row g l = taken_rows g.B.PreviousRows.rows l.self.taken
    ≡ taken_rows g.B.PreviousRows.rows l.fn.self.taken ++ take l.row-index
    (take l.count (drop l.from g.B.PreviousRows.rows))
