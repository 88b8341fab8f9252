use Rattle.std.proofs.Common.{◌≡◌, Some, sym, ap, subst, ◌∙◌}
use Rattle.std.specs.Prelude.{option_and_then}
use Rattle.std.proofs.lemmas.Result.{err_from_is_err_and}
use Rattle.group_history.specs.Refs.{stamp_of}
use Rattle.map_chunks.specs.Shown.{chunk_rows, shown, map_of_rows}
use Rattle.map_chunks.specs.Sinks.{HasMore, HasBegun}
use Rattle.map_tree.specs.Trees.{root_map}
use Rattle.map_chunks.proofs.ScanLemmas.{scan_of-map}
use Rattle.map_chunks.proofs.TreeLemmas.{map_at-rows}
use Rattle.map_tree.proofs.PlaceLemmas.{placed_may, own_may}
use Rattle.map_tree.proofs.tree.Tree.scan_into.Goals as goal

pub returns-in-Placed-clause-rows : goal.returns-in-Placed-clause-rows
returns-in-Placed-clause-rows g c m h =
    let p = g.C.Chunks.contents c.args.chunks.now in
    let k = stamp_of c.in-Placed.at in
    let e : option_and_then map_of_rows (chunk_rows p k)
    ≡ Some m = sym (map_at-rows p k) ∙ ap (root_map p) (sym c.in-Placed.is) ∙ h in
    subst (HasMore g.S.TakesRows.has c.args.sink.now c.scan_placed.new.sink)
    (scan_of-map (chunk_rows p k) m c.args.scan.now e) c.in_ok-scan_placed-in-Placed.ensures.rows.rows

pub returns-in_err-scan_placed-in-Placed-clause-begun : goal.returns-in_err-scan_placed-in-Placed-clause-begun
returns-in_err-scan_placed-in-Placed-clause-begun g c m h =
    let p = g.C.Chunks.contents c.args.chunks.now in
    let k = stamp_of c.in-Placed.at in
    let e : option_and_then map_of_rows (chunk_rows p k)
    ≡ Some m = sym (map_at-rows p k) ∙ ap (root_map p) (sym c.in-Placed.is) ∙ h in
    let r = err_from_is_err_and c.from_residual.result c.from_residual.ensures.1 in
    rw r.1
    (subst (HasBegun g.S.TakesRows.has c.args.sink.now c.scan_placed.new.sink)
    (scan_of-map (chunk_rows p k) m c.args.scan.now e) c.in_err-scan_placed-in-Placed.ensures.rows)

pub returns-in-Own-clause-rows : goal.returns-in-Own-clause-rows
returns-in-Own-clause-rows g c m h =
    let p = g.C.Chunks.contents c.args.chunks.now in
    let e : option_and_then map_of_rows (shown p c.in-Own.node.pieces)
    ≡ Some m = ap (root_map p) (sym c.in-Own.is) ∙ h in
    subst (HasMore g.S.TakesRows.has c.args.sink.now c.scan.new.sink)
    (scan_of-map (shown p c.in-Own.node.pieces) m c.args.scan.now e) c.in_ok-scan-in-Own.ensures.rows.rows

pub returns-in_err-scan-in-Own-clause-begun : goal.returns-in_err-scan-in-Own-clause-begun
returns-in_err-scan-in-Own-clause-begun g c m h =
    let p = g.C.Chunks.contents c.args.chunks.now in
    let e : option_and_then map_of_rows (shown p c.in-Own.node.pieces)
    ≡ Some m = ap (root_map p) (sym c.in-Own.is) ∙ h in
    let r = err_from_is_err_and c.from_residual-in_err-scan-in-Own.result
    c.from_residual-in_err-scan-in-Own.ensures.1 in
    rw r.1
    (subst (HasBegun g.S.TakesRows.has c.args.sink.now c.scan.new.sink)
    (scan_of-map (shown p c.in-Own.node.pieces) m c.args.scan.now e) c.in_err-scan-in-Own.ensures.rows)

pub scan_placed-requires-clause-place : goal.scan_placed-requires-clause-place
scan_placed-requires-clause-place g c = placed_may
    (g.C.Chunks.places c.args.chunks.now) c.args.self.now.root c.in-Placed.at c.in-Placed.is c.requires.places

pub scan-requires-clause-places : goal.scan-requires-clause-places
scan-requires-clause-places g c = own_may
    (g.C.Chunks.places c.args.chunks.now) c.args.self.now.root c.in-Own.node c.in-Own.is c.requires.places
