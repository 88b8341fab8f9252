use Rattle.std.proofs.Common.{◌≡◌, Some, subst}
use Rattle.group_history.specs.Queries.{view_rows}
use Rattle.group_history.specs.Record.{after}
use Rattle.head_word.specs.Books.{record_of}
use Rattle.head_word.specs.Marks.{Known}
use Rattle.rebase.specs.Readers.{read_by}
use Rattle.rebase.proofs.Polling.{told_again}
use Rattle.rebase.proofs.watching.Watch.ask.Goals as goal

pub returns-then-has_read-clause-value : goal.returns-then-has_read-clause-value
returns-then-has_read-clause-value g c =
    let w = c.args.self.now in told_again w.last (view_rows g.M.Means.means (read_by c.args.tx.now) w.scan)
    (subst (λ (k : Known). w.last ≡ Some (view_rows g.M.Means.means (after (record_of k.log)) w.scan))
    c.point-at.ensures (c.has_read.ensures c.if-has_read.true))

pub returns-then-has_covered-clause-value : goal.returns-then-has_covered-clause-value
returns-then-has_covered-clause-value g c =
    let w = c.args.self.now in told_again w.last (view_rows g.M.Means.means (read_by c.args.tx.now) w.scan)
    (subst (λ (k : Known). w.last ≡ Some (view_rows g.M.Means.means (after (record_of k.log)) w.scan))
    c.point-at.ensures (c.has_covered.ensures c.if-has_covered.true))
