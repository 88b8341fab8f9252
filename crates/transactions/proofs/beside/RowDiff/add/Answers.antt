use Rattle.std.proofs.Common.{◌≡◌, ◌+◌, [], ◌∷◌, ◌++◌, take, sym, ap, subst, ◌∙◌}
use Rattle.group_history.specs.Map.{Bytes}
use Rattle.group_history.specs.Rows.{Rows}
use Rattle.transactions.specs.Taking.{taken_rows}
use Rattle.transactions.specs.declared.beside.CollectedRows.{CollectedRows}
use Rattle.transactions.proofs.beside.RowDiff.add.Goals as goal

pub returns-then-is_at-clause-more : goal.returns-then-is_at-clause-more
returns-then-is_at-clause-more g c =
    let row : Bytes × Bytes = (c.args.key.now, c.args.value.now) in let count = c.in-First.count in
    subst (λ (rows : Rows). take (count + 1) rows ≡ take count rows ++ row ∷ []) c.args.self.now.named
    (c.is_at.ensures.row c.if-is_at.true) ∙ ap (λ (t : CollectedRows). taken_rows g.B.PreviousRows.rows t ++ row ∷ [])
    (sym c.in-First.is)
