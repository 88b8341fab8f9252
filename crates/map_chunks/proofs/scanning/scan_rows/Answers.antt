use Rattle.std.proofs.Common.{subst}
use Rattle.group_history.specs.Scans.{limited}
use Rattle.map_chunks.specs.Scanning.{Gave}
use Rattle.map_chunks.specs.Search.{IsPlace}
use Rattle.map_chunks.proofs.ScanLemmas.{rows_before}
use Rattle.map_chunks.proofs.SpanLemmas.{all_from, rises_from, scanned_from}
use Rattle.map_chunks.proofs.scanning.scan_rows.Goals as goal

pub returns-then-has_ends : goal.returns-then-has_ends
returns-then-has_ends g c =
    let keys = c.args.keys.now in
    let values = c.args.values.now in
    let first = c.place_of-first.result in
    let place = subst (λ w. IsPlace w keys first) c.as_str.ensures c.place_of-first.ensures in
    let none = rows_before keys values first c.args.scan.now c.lowest.result.now c.requires.values c.requires.order
    c.lowest.ensures place in
    subst (λ w. Gave g.S.TakesRows.has c.args.sink.now c.take_all.new.sink c.args.room c.take_all.result
    (limited c.args.room w))
    (all_from c.args.scan.now keys values first c.requires.values none (c.has_ends.ensures c.if-has_ends.true))
    c.take_all.ensures

pub take_rows-requires-clause-order : goal.take_rows-requires-clause-order
take_rows-requires-clause-order g c = rises_from c.args.keys.now c.place_of-first.result c.requires.order

pub returns : goal.returns
returns g c =
    let keys = c.args.keys.now in
    let values = c.args.values.now in
    let first = c.place_of-first.result in
    let place = subst (λ w. IsPlace w keys first) c.as_str.ensures c.place_of-first.ensures in
    let none = rows_before keys values first c.args.scan.now c.lowest.result.now c.requires.values c.requires.order
    c.lowest.ensures place in
    subst (λ w. Gave g.S.TakesRows.has c.args.sink.now c.take_rows.new.sink c.args.room c.take_rows.result
    (limited c.args.room w)) (scanned_from c.args.scan.now keys values first none) c.take_rows.ensures
