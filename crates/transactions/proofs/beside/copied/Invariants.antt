use Rattle.std.proofs.Common.{◌≡◌, take}
use Rattle.transactions.proofs.beside.copied.Given as goal

abbrev pub invariant-loop-row : goal.invariant-loop-row
invariant-loop-row l = l.copy.items ≡ take l.row-index l.fn.rows
