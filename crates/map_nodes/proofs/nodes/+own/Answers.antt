use Rattle.std.proofs.Common.{[], true, ◌≡◌, ◌∙◌, ap, sym, subst, arith, length, slice_index_or, T}
use Rattle.std.proofs.lemmas.List.{append-nil}
use Rattle.group_history.specs.Rows.{paired, rises}
use Rattle.map_nodes.specs.Nodes.{body_height, kids_height, IsNode}
use Rattle.map_chunks.specs.Places.{AreAll}
use Rattle.map_nodes.specs.Inside.Freezing.{kids_places}
use Rattle.map_chunks.specs.Scanning.{Took, Gave, taken, is_over}
use Rattle.map_chunks.specs.Search.{IsPlace}
use Rattle.map_chunks.specs.Sinks.{HasBegun}
use Rattle.map_nodes.specs.Inside.Scanning.{kids_shown}
use Rattle.map_chunks.specs.Shown.{Seen, rows_or, shown}
use Rattle.map_nodes.specs.declared.nodes.Body.TheVariants.{Inner}
use Rattle.map_chunks.proofs.OpenLemmas.{known, tree_of}
use Rattle.map_nodes.proofs.ScanLemmas.{shown_kid, kids_shown-is, leaf_shown, kid_turn, kid_height}
use Rattle.map_chunks.proofs.ScanLemmas.{got_any, pairs_begun, pairs_over, pairs_child, pairs_all, turn_stopped}
use Rattle.map_chunks.proofs.TakenLemmas.{gave_begun}
use Rattle.map_chunks.proofs.KeptLemmas.{all_on, grows_on}
use Rattle.map_nodes.proofs.PlaceLemmas.{kid_all, kids_may}
use Rattle.map_nodes.proofs.nodes.+own.Goals as goal

pub scanning::scan_kids-loop-place-init : goal.scanning::scan_kids-loop-place-init
scanning::scan_kids-loop-place-init g t c =
    let p = g.C.Chunks.contents c.args.chunks.now in
    let n = known (kids_shown p (paired c.args.below.firsts.now c.args.below.kids.now)) c.requires.tree in
    record {
      grown = (([], append-nil p), λ at h. h);
      rows = pairs_begun (shown_kid p) c.args.below.firsts.now c.args.below.kids.now c.place_of-place.result n.rows
          c.args.scan.now c.lowest.result.now g.S.TakesRows.has c.args.sink.now c.args.room c.requires.kids n.is n.order
          c.lowest.ensures
          (subst (λ w. IsPlace w c.args.below.firsts.now c.place_of-place.result) c.as_str.ensures
          c.place_of-place.ensures);
    }

pub scanning::scan_kids-returns-then-is_over-clause-rows : goal.scanning::scan_kids-returns-then-is_over-clause-rows
scanning::scan_kids-returns-then-is_over-clause-rows g t c =
    let p = g.C.Chunks.contents c.args.chunks.now in
    let n = known (kids_shown p (paired c.args.below.firsts.now c.args.below.kids.now)) c.requires.tree in
    subst (λ w. Took g.S.TakesRows.has c.args.sink.now c.loop-place.sink c.args.room c.loop-place.left
    (taken c.args.scan.now c.args.room (rows_or w))) (sym n.is)
    (pairs_over (shown_kid p) c.args.below.firsts.now c.args.below.kids.now c.loop-place.place n.rows c.args.scan.now
    g.S.TakesRows.has c.args.sink.now c.loop-place.sink c.args.room c.loop-place.left c.index-below-place.result
    c.requires.kids
    n.is n.order c.loop-place-test.true c.index-below-place.is c.loop-place.invariant.rows
    (subst (λ w. is_over c.args.scan.now c.loop-place.left w ≡ true) (sym c.index-below-place.is)
    (sym c.is_over.ensures ∙ c.if-is_over.true)))

pub scanning::scan_kids-returns-then-is_over-clause-grown : goal.scanning::scan_kids-returns-then-is_over-clause-grown
scanning::scan_kids-returns-then-is_over-clause-grown g t c = c.loop-place.invariant.grown

pub scanning::scan_kids-returns-in_err-left-clause-grown :
    goal.scanning::scan_kids-returns-in_err-left-clause-grown
scanning::scan_kids-returns-in_err-left-clause-grown g t c = grows_on g.C.Chunks.contents g.C.Chunks.places
    c.args.chunks.now c.loop-place.chunks c.scan_kid.new.chunks c.loop-place.invariant.grown c.scan_kid.ensures.grown

pub scanning::scan_kids-returns-clause-grown : goal.scanning::scan_kids-returns-clause-grown
scanning::scan_kids-returns-clause-grown g t c = c.loop-place.invariant.grown

pub scanning::scan_kids-scan_kid-requires : goal.scanning::scan_kids-scan_kid-requires
scanning::scan_kids-scan_kid-requires g t c κs ws =
    let p = g.C.Chunks.contents c.args.chunks.now in
    let n = known (kids_shown p (paired c.args.below.firsts.now c.args.below.kids.now)) c.requires.tree in
    let other = c.index-below-place-in-loop-place.result in
    let kid = slice_index_or c.args.below.kids.now c.loop-place.place other in
    let here = got_any c.args.below.kids.now c.loop-place.place other kid
    (omega (arith, c.requires.kids, c.loop-place-test.true)) in
    let u = kid_turn p (g.C.Chunks.contents c.loop-place.chunks) c.args.below.firsts.now c.args.below.kids.now
    c.loop-place.place kid c.loop-place.invariant.grown.0 c.requires.kids n c.loop-place-test.true here in
    let high = kid_height c.args.below.kids.now c.loop-place.place kid
    (omega (arith, c.requires.kids, c.loop-place-test.true)) here in
    let may = all_on (g.C.Chunks.places c.args.chunks.now)
    (g.C.Chunks.places c.loop-place.chunks) _ c.loop-place.invariant.grown.1
    (kid_all (g.C.Chunks.places c.args.chunks.now) c.args.below.kids.now c.loop-place.place kid
    (omega (arith, c.requires.kids, c.loop-place-test.true)) here c.requires.places) in (
      omega (arith, high, c.decreases),
      (ws.0, (ws.1.0, (ws.1.1, (may, u.tree)))),
    )

pub scanning::scan_kids-loop-place-preserved : goal.scanning::scan_kids-loop-place-preserved
scanning::scan_kids-loop-place-preserved g t c =
    let p = g.C.Chunks.contents c.args.chunks.now in
    let n = known (kids_shown p (paired c.args.below.firsts.now c.args.below.kids.now)) c.requires.tree in
    let other = c.index-below-place-in-loop-place.result in
    let kid = slice_index_or c.args.below.kids.now c.loop-place.place other in
    let here = got_any c.args.below.kids.now c.loop-place.place other kid
    (omega (arith, c.requires.kids, c.loop-place-test.true)) in
    let u = kid_turn p (g.C.Chunks.contents c.loop-place.chunks) c.args.below.firsts.now c.args.below.kids.now
    c.loop-place.place kid c.loop-place.invariant.grown.0 c.requires.kids n c.loop-place-test.true here in
    record {
      grown = grows_on g.C.Chunks.contents g.C.Chunks.places c.args.chunks.now c.loop-place.chunks c.scan_kid.new.chunks
          c.loop-place.invariant.grown c.scan_kid.ensures.grown;
      rows = pairs_child (shown_kid p) c.args.below.firsts.now c.args.below.kids.now c.loop-place.place n.rows
          c.args.scan.now g.S.TakesRows.has c.args.sink.now c.loop-place.sink c.scan_kid.new.sink c.args.room
          c.loop-place.left c.in_ok-left.left u.turn c.loop-place.invariant.rows
          (subst (λ w. Took g.S.TakesRows.has c.loop-place.sink c.scan_kid.new.sink c.loop-place.left
          c.in_ok-left.left (taken c.args.scan.now c.loop-place.left (rows_or w))) u.rows_are
          c.in_ok-left.ensures.rows);
    }

pub scanning::scan_kids-returns-in_err-left-clause-rows : goal.scanning::scan_kids-returns-in_err-left-clause-rows
scanning::scan_kids-returns-in_err-left-clause-rows g t c =
    let p = g.C.Chunks.contents c.args.chunks.now in
    let n = known (kids_shown p (paired c.args.below.firsts.now c.args.below.kids.now)) c.requires.tree in
    let other = c.index-below-place-in-loop-place.result in
    let kid = slice_index_or c.args.below.kids.now c.loop-place.place other in
    let here = got_any c.args.below.kids.now c.loop-place.place other kid
    (omega (arith, c.requires.kids, c.loop-place-test.true)) in
    let u = kid_turn p (g.C.Chunks.contents c.loop-place.chunks) c.args.below.firsts.now c.args.below.kids.now
    c.loop-place.place kid c.loop-place.invariant.grown.0 c.requires.kids n c.loop-place-test.true here in
    gave_begun g.S.TakesRows.has c.args.sink.now c.scan_kid.new.sink c.args.room c.from_residual.result _ _
    c.from_residual.ensures.1
    (subst (λ w. HasBegun g.S.TakesRows.has c.args.sink.now c.scan_kid.new.sink
    (taken c.args.scan.now c.args.room (rows_or w))) (sym n.is)
    (turn_stopped (shown_kid p) (paired c.args.below.firsts.now c.args.below.kids.now) c.loop-place.place n.rows
    c.args.scan.now g.S.TakesRows.has c.args.sink.now c.loop-place.sink c.scan_kid.new.sink c.args.room
    c.loop-place.left u.turn c.loop-place.invariant.rows
    (subst (λ w. HasBegun g.S.TakesRows.has c.loop-place.sink c.scan_kid.new.sink
    (taken c.args.scan.now c.loop-place.left (rows_or w))) u.rows_are c.in_err-left.ensures.rows)))

pub scanning::scan_kids-returns-clause-rows : goal.scanning::scan_kids-returns-clause-rows
scanning::scan_kids-returns-clause-rows g t c =
    let p = g.C.Chunks.contents c.args.chunks.now in
    let n = known (kids_shown p (paired c.args.below.firsts.now c.args.below.kids.now)) c.requires.tree in
    subst (λ w. Took g.S.TakesRows.has c.args.sink.now c.loop-place.sink c.args.room c.loop-place.left
    (taken c.args.scan.now c.args.room w))
    (pairs_all (shown_kid p) c.args.below.firsts.now c.args.below.kids.now c.loop-place.place n.rows c.requires.kids
    n.is
    (omega (arith, c.place_of-place.ensures.0)) ∙ ap rows_or (sym n.is)) c.loop-place.invariant.rows

pub OwnNode::scan-returns-in-Leaf-clause-rows : goal.OwnNode::scan-returns-in-Leaf-clause-rows
OwnNode::scan-returns-in-Leaf-clause-rows g t c =
    let p = g.C.Chunks.contents c.args.chunks.now in
    subst (λ w. Took g.S.TakesRows.has c.args.sink.now c.scan_rows.new.sink c.args.room c.in_ok-left-in-Leaf.left
    (taken c.args.scan.now c.args.room w))
    (leaf_shown p c.self.inside.depth c.self.inside.keys.texts c.self.inside.body c.in-Leaf.values
    c.args.self.now.pieces c.as_slice.result.now c.deref.result.now c.in-Leaf.is
    (ap (λ (s : Seen). s.pieces) c.self.view_is) c.as_slice.ensures c.deref.ensures.value)
    c.in_ok-left-in-Leaf.ensures

pub OwnNode::scan-returns-in_err-left-in-Leaf-clause-rows : goal.OwnNode::scan-returns-in_err-left-in-Leaf-clause-rows
OwnNode::scan-returns-in_err-left-in-Leaf-clause-rows g t c =
    let p = g.C.Chunks.contents c.args.chunks.now in
    gave_begun g.S.TakesRows.has c.args.sink.now c.scan_rows.new.sink c.args.room c.from_residual.result _ _
    c.from_residual.ensures.1
    (subst (λ w. HasBegun g.S.TakesRows.has c.args.sink.now c.scan_rows.new.sink
    (taken c.args.scan.now c.args.room w))
    (leaf_shown p c.self.inside.depth c.self.inside.keys.texts c.self.inside.body c.in-Leaf.values
    c.args.self.now.pieces c.as_slice.result.now c.deref.result.now c.in-Leaf.is
    (ap (λ (s : Seen). s.pieces) c.self.view_is) c.as_slice.ensures c.deref.ensures.value)
    c.in_err-left-in-Leaf.ensures)

pub OwnNode::scan-scan_kids-requires : goal.OwnNode::scan-scan_kids-requires
OwnNode::scan-scan_kids-requires g t c κs ws =
    let p = g.C.Chunks.contents c.args.chunks.now in
    let n = known (shown p c.args.self.now.pieces) c.requires.tree in
    let i : IsNode c.self.inside.depth c.self.inside.keys.texts (Inner c.in-Inner.kids) = subst
    (IsNode c.self.inside.depth c.self.inside.keys.texts) c.in-Inner.is c.self.invariant in
    let k = kids_shown-is p c.self.inside.depth c.self.inside.keys.texts c.self.inside.body c.in-Inner.kids
    c.args.self.now.pieces n.rows (ap (λ (s : Seen). s.pieces) c.self.view_is) c.in-Inner.is
    c.self.invariant n.is in
    let high : body_height (Inner c.in-Inner.kids)
    ≡ c.args.self.now.height = ap body_height (sym c.in-Inner.is) ∙ ap (λ (s : Seen). s.height) c.self.view_is in
    let pairs : kids_shown p (paired c.as_slice-in-Inner.result.now c.deref-in-Inner.result.now)
    ≡ kids_shown p (paired c.self.inside.keys.texts c.in-Inner.kids.items) =
    ap (λ w. kids_shown p (paired w c.deref-in-Inner.result.now)) c.as_slice-in-Inner.ensures ∙ ap
    (λ w. kids_shown p (paired c.self.inside.keys.texts w)) c.deref-in-Inner.ensures.value in
    let tops : kids_height c.deref-in-Inner.result.now
    ≡ kids_height c.in-Inner.kids.items = ap kids_height c.deref-in-Inner.ensures.value in (
      omega (arith, tops, high, c.decreases),
      (
        ws.0,
        (
          ws.1.0,
          (
            ws.1.1,
            (
              subst (λ ks. AreAll (g.C.Chunks.places c.args.chunks.now) (kids_places ks))
                  (sym c.deref-in-Inner.ensures.value)
                  (kids_may (g.C.Chunks.places c.args.chunks.now) c.self.inside.depth c.self.inside.keys.texts
                  c.self.inside.body c.in-Inner.kids c.args.self.now.pieces
                  (ap (λ (s : Seen). s.pieces) c.self.view_is) c.in-Inner.is c.self.invariant c.requires.places),
              (
                subst (λ w. T (rises w)) (sym c.as_slice-in-Inner.ensures) i.0.1,
                (
                  omega (arith, i.1.2, ap length c.as_slice-in-Inner.ensures, ap length c.deref-in-Inner.ensures.value),
                  tree_of (kids_shown p (paired c.as_slice-in-Inner.result.now c.deref-in-Inner.result.now)) n.rows
                      (pairs ∙ k) n.order,
                ),
              ),
            ),
          ),
        ),
      ),
    )

pub OwnNode::scan-returns-in-Inner-clause-rows : goal.OwnNode::scan-returns-in-Inner-clause-rows
OwnNode::scan-returns-in-Inner-clause-rows g t c =
    let p = g.C.Chunks.contents c.args.chunks.now in
    let n = known (shown p c.args.self.now.pieces) c.requires.tree in
    let k = kids_shown-is p c.self.inside.depth c.self.inside.keys.texts c.self.inside.body c.in-Inner.kids
    c.args.self.now.pieces n.rows (ap (λ (s : Seen). s.pieces) c.self.view_is) c.in-Inner.is
    c.self.invariant n.is in
    let pairs : kids_shown p (paired c.as_slice-in-Inner.result.now c.deref-in-Inner.result.now)
    ≡ kids_shown p (paired c.self.inside.keys.texts c.in-Inner.kids.items) =
    ap (λ w. kids_shown p (paired w c.deref-in-Inner.result.now)) c.as_slice-in-Inner.ensures ∙ ap
    (λ w. kids_shown p (paired c.self.inside.keys.texts w)) c.deref-in-Inner.ensures.value in
    subst (λ w. Gave g.S.TakesRows.has c.args.sink.now c.scan_kids.new.sink c.args.room c.scan_kids.result
    (taken c.args.scan.now c.args.room (rows_or w)))
    (pairs ∙ k ∙ sym n.is) c.scan_kids.ensures.rows
