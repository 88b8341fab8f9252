use Rattle.std.proofs.Common.{take}
use Rattle.group_history.specs.Rows.{paired}
use Rattle.map_chunks.specs.Sinks.{HasMore}
use Rattle.map_chunks.proofs.scanning.take_all.Given as goal

abbrev pub invariant-loop-place : goal.invariant-loop-place
invariant-loop-place g l = HasMore g.S.TakesRows.has l.fn.sink l.sink (take l.place (paired l.keys l.values))
