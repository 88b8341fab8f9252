use Rattle.std.proofs.Common.{◌≡◌, drop}
use Rattle.std.specs.FinMap as map
use Rattle.group_history.specs.Inside.Newer.{with_newer}
use Rattle.group_history.proofs.confirmed.flat.Given as goal

abbrev pub invariant-loop-one : goal.invariant-loop-one
invariant-loop-one l = with_newer (map.entries l.ids) (drop l.one-index l.newer)
    ≡ with_newer (map.entries l.fn.table) l.newer
