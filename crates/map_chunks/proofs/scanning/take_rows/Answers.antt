use Rattle.std.proofs.Common.{◌<◌, ◌∙◌, refl, sym, subst, arith, length}
use Rattle.group_history.specs.Rows.{paired}
use Rattle.map_chunks.specs.Scanning.{taken, Took}
use Rattle.map_chunks.proofs.ScanLemmas.{alone, alone-rows, pairs_order, pairs_over, pairs_row, pairs_all, rows_begun}
use Rattle.map_chunks.proofs.ScanLemmas.{pairs_stopped}
use Rattle.map_chunks.proofs.TakenLemmas.{gave_begun}
use Rattle.map_chunks.proofs.scanning.take_rows.Goals as goal

pub loop-place-init : goal.loop-place-init
loop-place-init g c = rows_begun (paired c.args.keys.now c.args.values.now) 0 c.args.scan.now
    g.S.TakesRows.has c.args.sink.now c.args.room refl

pub returns-then-is_over : goal.returns-then-is_over
returns-then-is_over g c =
    let rows = paired c.args.keys.now c.args.values.now in
    let b : c.loop-place.place < length c.args.keys.now = omega (arith, c.loop-place-test.true) in
    pairs_over alone c.args.keys.now c.args.values.now c.loop-place.place rows c.args.scan.now g.S.TakesRows.has
    c.args.sink.now c.loop-place.sink c.args.room c.loop-place.left c.index-keys-place.result c.requires.values
    (alone-rows rows) (pairs_order c.args.keys.now c.args.values.now c.requires.values c.requires.order) b
    c.index-keys-place.is c.loop-place.invariant (sym c.is_over.ensures ∙ c.if-is_over.true)

pub loop-place-preserved : goal.loop-place-preserved
loop-place-preserved g c =
    let b : c.loop-place.place < length c.args.keys.now = omega (arith, c.loop-place-test.true) in
    pairs_row c.args.keys.now c.args.values.now c.loop-place.place c.args.scan.now g.S.TakesRows.has
    c.args.sink.now c.loop-place.sink c.take_row.new.sink c.args.room c.loop-place.left _
    c.index-keys-place-in-loop-place.result c.index-values-place.result c.requires.values
    (pairs_order c.args.keys.now c.args.values.now c.requires.values c.requires.order) b
    c.index-keys-place-in-loop-place.is c.index-values-place.is c.loop-place.invariant c.in_ok-left.ensures

pub returns-in_err-left : goal.returns-in_err-left
returns-in_err-left g c =
    let b : c.loop-place.place < length c.args.keys.now = omega (arith, c.loop-place-test.true) in
    gave_begun g.S.TakesRows.has c.args.sink.now c.take_row.new.sink c.args.room c.from_residual.result
    (taken c.args.scan.now c.args.room (paired c.args.keys.now c.args.values.now)) _ c.from_residual.ensures.1
    (pairs_stopped c.args.keys.now c.args.values.now c.loop-place.place c.args.scan.now g.S.TakesRows.has
    c.args.sink.now c.loop-place.sink c.take_row.new.sink c.args.room c.loop-place.left
    c.index-keys-place-in-loop-place.result c.index-values-place.result c.requires.values
    (pairs_order c.args.keys.now c.args.values.now c.requires.values c.requires.order) b
    c.index-keys-place-in-loop-place.is c.index-values-place.is c.loop-place.invariant c.in_err-left.ensures)

pub returns : goal.returns
returns g c =
    let rows = paired c.args.keys.now c.args.values.now in
    subst (λ w. Took g.S.TakesRows.has c.args.sink.now c.loop-place.sink c.args.room c.loop-place.left
    (taken c.args.scan.now c.args.room w))
    (pairs_all alone c.args.keys.now c.args.values.now c.loop-place.place rows c.requires.values (alone-rows rows)
    (omega (arith, c.loop-place-test.false))) c.loop-place.invariant
