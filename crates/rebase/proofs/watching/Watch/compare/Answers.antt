use Rattle.group_history.specs.Queries.{view_rows}
use Rattle.rebase.specs.Readers.{read_by}
use Rattle.rebase.proofs.Polling.{none_of, told_again}
use Rattle.rebase.proofs.watching.Watch.compare.Goals as goal

pub returns-in_default-clause-value : goal.returns-in_default-clause-value
returns-in_default-clause-value g c =
    let w = c.args.self.now in told_again w.last (view_rows g.M.Means.means (read_by c.args.tx.now) w.scan)
    (none_of _ c.in_default.is c.in_ok-others.ensures.same)
