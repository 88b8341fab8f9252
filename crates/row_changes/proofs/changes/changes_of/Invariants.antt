use Rattle.std.proofs.Common.{◌≡◌, ◌+◌, ◌-◌, ◌≤◌, ◌++◌, length, drop}
use Rattle.row_changes.proofs.Merging.{merged}
use Rattle.row_changes.proofs.changes.changes_of.Given as goal

abbrev pub invariant-loop-i : goal.invariant-loop-i
invariant-loop-i l = record {
  in_old : l.i ≤ length l.old;
  in_new : l.j ≤ length l.new;
  rest : merged l.old l.new ≡ l.changes.items ++ merged (drop l.i l.old) (drop l.j l.new);
}

abbrev pub decreases-loop-i : goal.decreases-loop-i
decreases-loop-i l = (length l.old - l.i) + (length l.new - l.j)
