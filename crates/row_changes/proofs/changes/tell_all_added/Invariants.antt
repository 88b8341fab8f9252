use Rattle.std.proofs.Common.{◌≡◌, ◌++◌, map, take}
use Rattle.row_changes.specs.Inside.{addition}
use Rattle.row_changes.proofs.changes.tell_all_added.Given as goal

abbrev pub invariant-loop-row : goal.invariant-loop-row
invariant-loop-row l = l.changes.items ≡ l.fn.changes.items ++ map addition (take l.row-index l.rows)
