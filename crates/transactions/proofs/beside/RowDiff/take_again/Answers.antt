use Rattle.std.proofs.Common.{◌≡◌, ◌+◌, [], ◌∷◌, ◌++◌, take, drop, ap, sym, ◌∙◌, append_assoc}
use Rattle.std.proofs.lemmas.List.{take_more}
use Rattle.group_history.specs.Map.{Bytes}
use Rattle.group_history.specs.Rows.{Rows}
use Rattle.transactions.specs.Taking.{taken_rows}
use Rattle.transactions.proofs.beside.RowDiff.take_again.Goals as goal

pub loop-row-preserved : goal.loop-row-preserved
loop-row-preserved g c =
    let rows = g.B.PreviousRows.rows in let items = c.first-row-items.result.now in let i = c.loop-row.row-index in
    let old = taken_rows rows c.args.self.now.taken in
    let row : Bytes × Bytes = c.row-item.result in
    let same : items ≡ take c.args.count (drop c.args.from rows) = c.first-row-items.ensures ∙ ap (take c.args.count)
    (c.behind.ensures ∙ ap (drop c.args.from) c.pass_over.new.self.named) in
    let more : take i items ++ row ∷ [] ≡ take (i + 1) items = ap (λ (w : Bytes × Bytes). take i items ++ w ∷ [])
    c.row-item.is ∙ sym (take_more items i row c.loop-row-test.true) in
    c.in_ok-add.ensures.more ∙ ap (λ (w : Rows). w ++ row ∷ []) c.loop-row.invariant
    ∙ ap (λ (w : Rows). (old ++ take i w) ++ row ∷ []) (sym same)
    ∙ append_assoc old (take i items) (row ∷ []) ∙ ap (λ (w : Rows). old ++ w) more
    ∙ ap (λ (w : Rows). old ++ take (i + 1) w) same
