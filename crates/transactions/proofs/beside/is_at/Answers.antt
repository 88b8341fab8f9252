use Rattle.std.proofs.Common.{◌<◌, [], ◌∷◌, ◌++◌, length, take, ap, sym, ◌∙◌, arith}
use Rattle.std.proofs.lemmas.List.{take_more}
use Rattle.group_history.specs.Map.{Bytes}
use Rattle.transactions.proofs.RowLemmas.{same_row}
use Rattle.transactions.proofs.beside.is_at.Goals as goal

pub returns-then-eq-clause-row : goal.returns-then-eq-clause-row
returns-then-eq-clause-row c t =
    let rows = c.args.rows.now in let row = c.index-rows-place.result in
    let lt : c.args.place < length rows = omega (arith, c.if-place-rows.false) in
    take_more rows c.args.place row lt ∙ ap (λ (w : Bytes × Bytes). take c.args.place rows ++ w ∷ [])
    (sym c.index-rows-place.is ∙ same_row row (c.args.key.now, c.args.value.now) (sym c.eq.ensures ∙ c.if-eq.true)
    (sym c.eq-then-eq.ensures ∙ t))
