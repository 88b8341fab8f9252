use Rattle.std.proofs.Common.{ℕ, ◌++◌, take, drop, ap, sym, ◌∙◌}
use Rattle.std.proofs.Math.Seq.{take-add}
use Rattle.transactions.specs.Taking.{taken_rows}
use Rattle.transactions.specs.declared.beside.CollectedRows.{CollectedRows}
use Rattle.transactions.proofs.beside.RowDiff.pass_over.Goals as goal

pub returns-in-First-clause-more : goal.returns-in-First-clause-more
returns-in-First-clause-more g c t =
    let rows = g.B.PreviousRows.rows in let more = take c.args.count (drop c.args.from rows) in
    take-add c.args.from c.args.count rows ∙ ap (λ (n : ℕ). take n rows ++ more) (sym c.if-taken-from.false) ∙ ap
    (λ (w : CollectedRows). taken_rows rows w ++ more) (sym c.in-First.is)
