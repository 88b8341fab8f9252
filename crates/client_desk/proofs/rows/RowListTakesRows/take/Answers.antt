use Rattle.std.proofs.lemmas.Result.{on_err_weaker}
use Rattle.client_desk.proofs.Joining.{row_taken, rows_still}
use Rattle.client_desk.proofs.rows.RowListTakesRows.take.Goals as goal

pub returns-clause-more : goal.returns-clause-more
returns-clause-more c = row_taken c.add.result c.args.self.now c.add.new.self (c.args.key.now, c.args.value.now)
    c.add.ensures.empty c.add.ensures.first c.add.ensures.next

pub returns-clause-still : goal.returns-clause-still
returns-clause-still c = on_err_weaker c.add.result (rows_still c.args.self.now c.add.new.self) c.add.ensures.still
