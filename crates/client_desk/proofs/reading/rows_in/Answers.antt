use Rattle.std.proofs.Common.{[]}
use Rattle.group_history.specs.Scans.{rows_of}
use Rattle.client_desk.proofs.reading.rows_in.Goals as goal

pub returns-clause-rows : goal.returns-clause-rows
returns-clause-rows g c =
    c.in_ok-end.ensures (rows_of c.args.scan.now c.args.tx.now.version.read)
    (c.in_default.ensures.rows [] c.new-list.ensures)
