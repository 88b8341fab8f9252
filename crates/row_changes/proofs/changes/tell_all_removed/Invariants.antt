use Rattle.std.proofs.Common.{◌≡◌, ◌++◌, map, take}
use Rattle.row_changes.specs.Inside.{removal}
use Rattle.row_changes.proofs.changes.tell_all_removed.Given as goal

abbrev pub invariant-loop-row : goal.invariant-loop-row
invariant-loop-row l = l.changes.items ≡ l.fn.changes.items ++ map removal (take l.row-index l.rows)
