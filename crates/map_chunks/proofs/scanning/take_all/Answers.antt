use Rattle.std.proofs.Common.{◌∙◌, ◌≡◌, ap, subst, arith, append_assoc, take, ◌++◌}
use Rattle.group_history.specs.Rows.{paired}
use Rattle.group_history.specs.Scans.{limited}
use Rattle.map_chunks.specs.Sinks.{HasMore}
use Rattle.map_chunks.proofs.ListLemmas.{length-paired}
use Rattle.map_chunks.proofs.SpanLemmas.{row_more}
use Rattle.map_chunks.proofs.TakenLemmas.{took_by, begun_by, gave_begun}
use Rattle.map_chunks.proofs.scanning.take_all.Goals as goal

pub loop-place-preserved : goal.loop-place-preserved
loop-place-preserved g c rows h =
    let keys = c.args.keys.now in
    let values = c.args.values.now in
    let done = take c.loop-place.place (paired keys values) in
    let b = c.loop-place-test.true in
    let few = c.fitting-end.ensures.few in
    subst (g.S.TakesRows.has c.take.new.self)
    (append_assoc rows done _ ∙ ap (λ w. rows ++ w)
    (row_more keys values c.loop-place.place c.index-keys-place.result c.index-values-place.result c.requires
    (omega (arith, b, few)) c.index-keys-place.is c.index-values-place.is))
    (c.in_ok-take.ensures.more (rows ++ done) (c.loop-place.invariant rows h))

pub returns-in_err-take : goal.returns-in_err-take
returns-in_err-take g c =
    let rows = paired c.args.keys.now c.args.values.now in
    let many = length-paired c.args.keys.now c.args.values.now c.requires in
    gave_begun g.S.TakesRows.has c.args.sink.now c.take.new.self c.args.room c.from_residual.result
    (limited c.args.room rows) _ c.from_residual.ensures.1
    (begun_by g.S.TakesRows.has c.args.sink.now c.loop-place.sink c.take.new.self c.args.room rows c.loop-place.place
    c.fitting-end.result (omega (arith, c.loop-place-test.true)) (c.fitting-end.ensures.all rows many)
    c.loop-place.invariant c.in_err-take.ensures.still)

pub returns : goal.returns
returns g c =
    let rows = paired c.args.keys.now c.args.values.now in
    let many = length-paired c.args.keys.now c.args.values.now c.requires in
    let end : c.loop-place.place ≡ c.fitting-end.result = omega (arith, c.loop-place-test.false) in
    took_by g.S.TakesRows.has c.args.sink.now c.loop-place.sink c.args.room c.lessened.result rows c.fitting-end.result
    (omega (arith, many, c.fitting-end.ensures.few)) (c.fitting-end.ensures.all rows many) c.lessened.ensures
    (subst (λ n. HasMore g.S.TakesRows.has c.args.sink.now c.loop-place.sink (take n rows)) end c.loop-place.invariant)
