use Rattle.std.proofs.Common.{◌≡◌, drop}
use Rattle.group_history.specs.Inside.Newer.{newest_at}
use Rattle.group_history.proofs.confirmed.newest_at.Given as goal

abbrev pub invariant-loop-one : goal.invariant-loop-one
invariant-loop-one l = newest_at l.place (drop l.one-index l.newer) l.newest ≡ newest_at l.place l.newer l.fn.id
