use Rattle.std.proofs.Common.{[], true, ◌≡◌, ◌∙◌, ap, sym, subst, arith, length, slice_index_or}
use Rattle.std.proofs.lemmas.List.{append-nil}
use Rattle.group_history.specs.declared.nodes.Chunk.{Chunk}
use Rattle.group_history.specs.declared.refs.Ref.{Ref}
use Rattle.group_history.specs.Refs.{stamp_of}
use Rattle.group_history.specs.Rows.{paired, keys_of, values_of}
use Rattle.group_history.proofs.Pairs.{paired-parts}
use Rattle.std.proofs.lemmas.List.Elements.{Contains-get_or}
use Rattle.group_history.specs.Naming.{chunk_children}
use Rattle.map_chunks.specs.Places.{AreAll}
use Rattle.map_chunks.proofs.KeptLemmas.{grows_on}
use Rattle.map_chunks.specs.Scanning.{Took, Gave, taken, is_over}
use Rattle.map_chunks.specs.Search.{IsPlace}
use Rattle.map_chunks.specs.Sinks.{HasBegun}
use Rattle.map_chunks.specs.Inside.Scanning.{opened_rows, children_rows}
use Rattle.map_chunks.specs.Shown.{IsTree, rows_or, chunk_rows}
use Rattle.map_chunks.proofs.OpenLemmas.{known, tree_of}
use Rattle.map_chunks.proofs.SearchLemmas.{length-keys_of, length-values_of}
use Rattle.map_chunks.proofs.ScanLemmas.{got_any, ref_rows, refs_known, ref_turn, top, chunk_top, pairs_begun}
use Rattle.map_chunks.proofs.ScanLemmas.{pairs_over, pairs_child, pairs_all, opened_is, chunk_rows-kept, turn_stopped}
use Rattle.map_chunks.proofs.ScanLemmas.{leaf_opened}
use Rattle.map_chunks.proofs.TakenLemmas.{gave_begun}
use Rattle.map_chunks.proofs.scanning.+placed.Goals as goal

pub scan_children-loop-place-init : goal.scan_children-loop-place-init
scan_children-loop-place-init g t c =
    let p = g.C.Chunks.contents c.args.chunks.now in
    let n = refs_known p c.args.below.firsts.now c.args.below.children.now c.requires.tree in
    record {
      grown = (([], append-nil p), λ at h. h);
      rows = pairs_begun (ref_rows p) c.args.below.firsts.now c.args.below.children.now c.place_of-place.result n.rows
          c.args.scan.now c.lowest.result.now g.S.TakesRows.has c.args.sink.now c.args.room c.requires.children n.is
          n.order c.lowest.ensures
          (subst (λ w. IsPlace w c.args.below.firsts.now c.place_of-place.result) c.as_str.ensures
          c.place_of-place.ensures);
    }

pub scan_children-returns-then-is_over-clause-rows : goal.scan_children-returns-then-is_over-clause-rows
scan_children-returns-then-is_over-clause-rows g t c =
    let p = g.C.Chunks.contents c.args.chunks.now in
    let n = refs_known p c.args.below.firsts.now c.args.below.children.now c.requires.tree in
    subst (λ w. Took g.S.TakesRows.has c.args.sink.now c.loop-place.sink c.args.room c.loop-place.left
    (taken c.args.scan.now c.args.room (rows_or w))) (sym n.is)
    (pairs_over (ref_rows p) c.args.below.firsts.now c.args.below.children.now c.loop-place.place n.rows c.args.scan.now
    g.S.TakesRows.has c.args.sink.now c.loop-place.sink c.args.room c.loop-place.left c.index-below-place.result
    c.requires.children
    n.is n.order c.loop-place-test.true c.index-below-place.is c.loop-place.invariant.rows
    (subst (λ w. is_over c.args.scan.now c.loop-place.left w ≡ true) (sym c.index-below-place.is)
    (sym c.is_over.ensures ∙ c.if-is_over.true)))

pub scan_children-returns-then-is_over-clause-grown : goal.scan_children-returns-then-is_over-clause-grown
scan_children-returns-then-is_over-clause-grown g t c = c.loop-place.invariant.grown

pub scan_children-returns-in_err-left-clause-grown : goal.scan_children-returns-in_err-left-clause-grown
scan_children-returns-in_err-left-clause-grown g t c = grows_on g.C.Chunks.contents g.C.Chunks.places
    c.args.chunks.now c.loop-place.chunks c.scan_placed.new.chunks c.loop-place.invariant.grown
    c.scan_placed.ensures.grown

pub scan_children-returns-clause-grown : goal.scan_children-returns-clause-grown
scan_children-returns-clause-grown g t c = c.loop-place.invariant.grown

pub scan_children-scan_placed-requires : goal.scan_children-scan_placed-requires
scan_children-scan_placed-requires g t c κs ws =
    let p = g.C.Chunks.contents c.args.chunks.now in
    let n = refs_known p c.args.below.firsts.now c.args.below.children.now c.requires.tree in
    let at = slice_index_or c.args.below.children.now c.loop-place.place (record { bits = 0 }) in
    let u = ref_turn p (g.C.Chunks.contents c.loop-place.chunks) c.args.below.firsts.now c.args.below.children.now
    c.loop-place.place at c.loop-place.invariant.grown.0 c.requires.children n c.loop-place-test.true
    (got_any c.args.below.children.now c.loop-place.place (record { bits = 0 }) at
    (omega (arith, c.requires.children, c.loop-place-test.true))) in
    let place = c.loop-place.invariant.grown.1 at
    (c.requires.places at (Contains-get_or c.args.below.children.now c.loop-place.place (record { bits = 0 })
    (omega (arith, c.requires.children, c.loop-place-test.true)))) in (
      omega (arith, u.low, c.decreases),
      (
        ws.0,
        (
          ws.1.0,
          (
            ws.1.1,
            (
              place,
              u.tree,
            ),
          ),
        ),
      ),
    )

pub scan_children-loop-place-preserved : goal.scan_children-loop-place-preserved
scan_children-loop-place-preserved g t c =
    let p = g.C.Chunks.contents c.args.chunks.now in
    let n = refs_known p c.args.below.firsts.now c.args.below.children.now c.requires.tree in
    let at = slice_index_or c.args.below.children.now c.loop-place.place (record { bits = 0 }) in
    let u = ref_turn p (g.C.Chunks.contents c.loop-place.chunks) c.args.below.firsts.now c.args.below.children.now
    c.loop-place.place at c.loop-place.invariant.grown.0 c.requires.children n c.loop-place-test.true
    (got_any c.args.below.children.now c.loop-place.place (record { bits = 0 }) at
    (omega (arith, c.requires.children, c.loop-place-test.true))) in
    record {
      grown = grows_on g.C.Chunks.contents g.C.Chunks.places c.args.chunks.now c.loop-place.chunks
          c.scan_placed.new.chunks c.loop-place.invariant.grown c.scan_placed.ensures.grown;
      rows = pairs_child (ref_rows p) c.args.below.firsts.now c.args.below.children.now c.loop-place.place n.rows
          c.args.scan.now g.S.TakesRows.has c.args.sink.now c.loop-place.sink c.scan_placed.new.sink c.args.room
          c.loop-place.left c.in_ok-left.left u.turn c.loop-place.invariant.rows
          (subst (λ w. Took g.S.TakesRows.has c.loop-place.sink c.scan_placed.new.sink c.loop-place.left
          c.in_ok-left.left (taken c.args.scan.now c.loop-place.left (rows_or w))) u.rows_are
          c.in_ok-left.ensures.rows);
    }

pub scan_children-returns-in_err-left-clause-rows : goal.scan_children-returns-in_err-left-clause-rows
scan_children-returns-in_err-left-clause-rows g t c =
    let p = g.C.Chunks.contents c.args.chunks.now in
    let n = refs_known p c.args.below.firsts.now c.args.below.children.now c.requires.tree in
    let at = slice_index_or c.args.below.children.now c.loop-place.place (record { bits = 0 }) in
    let u = ref_turn p (g.C.Chunks.contents c.loop-place.chunks) c.args.below.firsts.now c.args.below.children.now
    c.loop-place.place at c.loop-place.invariant.grown.0 c.requires.children n c.loop-place-test.true
    (got_any c.args.below.children.now c.loop-place.place (record { bits = 0 }) at
    (omega (arith, c.requires.children, c.loop-place-test.true))) in
    gave_begun g.S.TakesRows.has c.args.sink.now c.scan_placed.new.sink c.args.room c.from_residual.result _ _
    c.from_residual.ensures.1
    (subst (λ w. HasBegun g.S.TakesRows.has c.args.sink.now c.scan_placed.new.sink
    (taken c.args.scan.now c.args.room (rows_or w))) (sym n.is)
    (turn_stopped (ref_rows p) (paired c.args.below.firsts.now c.args.below.children.now) c.loop-place.place n.rows
    c.args.scan.now g.S.TakesRows.has c.args.sink.now c.loop-place.sink c.scan_placed.new.sink c.args.room
    c.loop-place.left u.turn c.loop-place.invariant.rows
    (subst (λ w. HasBegun g.S.TakesRows.has c.loop-place.sink c.scan_placed.new.sink
    (taken c.args.scan.now c.loop-place.left (rows_or w))) u.rows_are c.in_err-left.ensures.rows)))

pub scan_children-returns-clause-rows : goal.scan_children-returns-clause-rows
scan_children-returns-clause-rows g t c =
    let p = g.C.Chunks.contents c.args.chunks.now in
    let n = refs_known p c.args.below.firsts.now c.args.below.children.now c.requires.tree in
    subst (λ w. Took g.S.TakesRows.has c.args.sink.now c.loop-place.sink c.args.room c.loop-place.left
    (taken c.args.scan.now c.args.room w))
    (pairs_all (ref_rows p) c.args.below.firsts.now c.args.below.children.now c.loop-place.place n.rows
    c.requires.children n.is
    (omega (arith, c.place_of-place.ensures.0)) ∙ ap rows_or (sym n.is)) c.loop-place.invariant.rows

pub scan_chunk-returns-in-Leaf-clause-rows : goal.scan_chunk-returns-in-Leaf-clause-rows
scan_chunk-returns-in-Leaf-clause-rows g t c =
    subst (λ w. Took g.S.TakesRows.has c.args.sink.now c.scan_rows.new.sink c.args.room c.in_ok-left-in-Leaf.left
    (taken c.args.scan.now c.args.room w))
    (leaf_opened (g.C.Chunks.contents c.args.chunks.now) c.args.chunk.now c.in-Leaf.leaf c.as_slice.result.now
    c.values.result.now c.in-Leaf.is (c.as_slice.ensures.keys ∙ c.deref.ensures ∙ c.keys.ensures.keys)
    c.values.ensures)
    c.in_ok-left-in-Leaf.ensures

pub scan_chunk-returns-in_err-left-in-Leaf-clause-rows : goal.scan_chunk-returns-in_err-left-in-Leaf-clause-rows
scan_chunk-returns-in_err-left-in-Leaf-clause-rows g t c =
    let opened = leaf_opened (g.C.Chunks.contents c.args.chunks.now) c.args.chunk.now c.in-Leaf.leaf
    c.as_slice.result.now c.values.result.now c.in-Leaf.is
    (c.as_slice.ensures.keys ∙ c.deref.ensures ∙ c.keys.ensures.keys) c.values.ensures in
    gave_begun g.S.TakesRows.has c.args.sink.now c.scan_rows.new.sink c.args.room c.from_residual.result _ _
    c.from_residual.ensures.1
    (subst (λ w. HasBegun g.S.TakesRows.has c.args.sink.now c.scan_rows.new.sink
    (taken c.args.scan.now c.args.room w)) opened c.in_err-left-in-Leaf.ensures)

pub scan_chunk-scan_children-requires : goal.scan_chunk-scan_children-requires
scan_chunk-scan_children-requires g t c κs ws =
    let p = g.C.Chunks.contents c.args.chunks.now in
    let kids = c.in-Inner.inner in
    let keys : c.as_slice-in-Inner.result.now
    ≡ keys_of kids = c.as_slice-in-Inner.ensures.keys ∙ c.deref-in-Inner.ensures ∙ c.firsts.ensures.keys in
    let children : c.children.result.now ≡ values_of kids = c.children.ensures in
    let pairs : paired c.as_slice-in-Inner.result.now c.children.result.now
    ≡ kids = ap (λ w. paired w c.children.result.now) keys ∙ ap
    (λ w. paired (keys_of kids) w) children ∙ paired-parts kids in
    let tops : top (paired c.as_slice-in-Inner.result.now c.children.result.now)
    ≡ chunk_top c.args.chunk.now = ap top pairs ∙ ap chunk_top (sym c.in-Inner.is) in (
      omega (arith, tops, c.decreases),
      (
        ws.0,
        (
          ws.1.0,
          (
            ws.1.1,
            (
              subst (AreAll (g.C.Chunks.places c.args.chunks.now)) (sym children)
                  (subst (λ (ch : Chunk Ref). AreAll (g.C.Chunks.places c.args.chunks.now) (chunk_children ch))
                  c.in-Inner.is c.requires.places),
              (
                c.as_slice-in-Inner.ensures.order.1,
                (
                  omega (arith, ap length keys, ap length children, length-keys_of kids, length-values_of kids),
                  subst (λ w. IsTree (children_rows p w)) (sym pairs)
                      (subst (λ (ch : Chunk Ref). IsTree (opened_rows p ch)) c.in-Inner.is c.requires.tree),
                ),
              ),
            ),
          ),
        ),
      ),
    )

pub scan_chunk-returns-in-Inner-clause-rows : goal.scan_chunk-returns-in-Inner-clause-rows
scan_chunk-returns-in-Inner-clause-rows g t c =
    let p = g.C.Chunks.contents c.args.chunks.now in
    let kids = c.in-Inner.inner in
    let keys : c.as_slice-in-Inner.result.now
    ≡ keys_of kids = c.as_slice-in-Inner.ensures.keys ∙ c.deref-in-Inner.ensures ∙ c.firsts.ensures.keys in
    let children : c.children.result.now ≡ values_of kids = c.children.ensures in
    let pairs : paired c.as_slice-in-Inner.result.now c.children.result.now
    ≡ kids = ap (λ w. paired w c.children.result.now) keys ∙ ap
    (λ w. paired (keys_of kids) w) children ∙ paired-parts kids in
    subst (λ w. Gave g.S.TakesRows.has c.args.sink.now c.scan_children.new.sink c.args.room c.scan_children.result
    (taken c.args.scan.now c.args.room (rows_or w)))
    (ap (children_rows p) pairs ∙ ap (λ (ch : Chunk Ref). opened_rows p ch) (sym c.in-Inner.is))
    c.scan_children.ensures.rows

pub scan_placed-scan_chunk-answer-requires : goal.scan_placed-scan_chunk-answer-requires
scan_placed-scan_chunk-answer-requires g t c κs ws =
    let p = g.C.Chunks.contents c.args.chunks.now in
    let q = g.C.Chunks.contents c.show.new.self in
    let n = known (chunk_rows p (stamp_of c.args.at)) c.requires.tree in
    let o = opened_is q (stamp_of c.args.at) n.rows _
    (chunk_rows-kept p q (stamp_of c.args.at) n.rows c.show.ensures.grown.0 n.is) c.in_ok-held.ensures.content in
    let tops = ap chunk_top c.chunk.ensures in (
      omega (arith, tops, o.low, c.decreases),
      (
        ws.0,
        (
          ws.1.0,
          (
            ws.1.1,
            (
              subst (λ (ch : Chunk Ref). AreAll (g.C.Chunks.places c.show.new.self) (chunk_children ch))
                  (sym c.chunk.ensures) c.in_ok-held.ensures.children,
              subst (λ (ch : Chunk Ref). IsTree (opened_rows q ch)) (sym c.chunk.ensures)
                  (tree_of (opened_rows q _) n.rows o.rows_are n.order),
            ),
          ),
        ),
      ),
    )

pub scan_placed-returns-clause-rows : goal.scan_placed-returns-clause-rows
scan_placed-returns-clause-rows g t c =
    let p = g.C.Chunks.contents c.args.chunks.now in
    let q = g.C.Chunks.contents c.show.new.self in
    let n = known (chunk_rows p (stamp_of c.args.at)) c.requires.tree in
    let o = opened_is q (stamp_of c.args.at) n.rows _
    (chunk_rows-kept p q (stamp_of c.args.at) n.rows c.show.ensures.grown.0 n.is) c.in_ok-held.ensures.content in
    subst (λ w. Gave g.S.TakesRows.has c.args.sink.now c.scan_chunk-answer.new.sink c.args.room
    c.scan_chunk-answer.result (taken c.args.scan.now c.args.room (rows_or w)))
    (ap (λ (ch : Chunk Ref). opened_rows q ch) c.chunk.ensures ∙ o.rows_are ∙ sym n.is) c.scan_chunk-answer.ensures.rows
