use Rattle.group_history.specs.Rows.{paired}
use Rattle.map_chunks.specs.Scanning.{Took, taken}
use Rattle.map_chunks.proofs.ScanLemmas.{first_rows, alone}
use Rattle.map_chunks.proofs.scanning.take_rows.Given as goal

abbrev pub invariant-loop-place : goal.invariant-loop-place
invariant-loop-place g l = Took g.S.TakesRows.has l.fn.sink l.sink l.fn.room l.left
    (taken l.scan l.fn.room (first_rows alone (paired l.keys l.values) l.place))
