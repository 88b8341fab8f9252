use Rattle.std.proofs.Common.{◌≡◌, drop}
use Rattle.group_history.specs.Inside.Newer.{ids_above}
use Rattle.group_history.specs.Pulling.{overwritten}
use Rattle.group_history.proofs.confirmed.with_more.Given as goal

abbrev pub invariant-loop-change : goal.invariant-loop-change
invariant-loop-change l = overwritten (ids_above l.table l.all.items) (drop l.change-index l.changes)
    ≡ overwritten (ids_above l.table l.newer) l.changes
