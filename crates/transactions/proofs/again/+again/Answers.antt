use Rattle.std.proofs.Common.{[], inl, inr, true, Option, Some, ◌≡◌, ◌∙◌, ℕ, ap, sym, subst, arith, length}
use Rattle.std.proofs.Common.{slice_get, slice_index_or}
use Rattle.std.proofs.lemmas.List.{append-nil}
use Rattle.std.proofs.lemmas.List.Elements.{Contains-get_or}
use Rattle.group_history.specs.declared.nodes.Chunk.{Chunk}
use Rattle.group_history.specs.declared.refs.Ref.{Ref}
use Rattle.group_history.specs.Naming.{chunk_children, chunk_content}
use Rattle.group_history.specs.Refs.{stamp_of}
use Rattle.group_history.specs.Rows.{paired, keys_of, values_of}
use Rattle.group_history.proofs.Lists.{prefix_trans}
use Rattle.group_history.proofs.Pairs.{paired-parts}
use Rattle.map_chunks.specs.Places.{AreAll}
use Rattle.map_chunks.specs.Scanning.{Took, is_over, taken}
use Rattle.map_chunks.specs.Search.{IsPlace}
use Rattle.map_chunks.specs.Shown.{IsTree, chunk_rows, rows_or}
use Rattle.map_chunks.proofs.AnswerLemmas.{on_ok}
use Rattle.map_chunks.proofs.CoverLemmas.{below}
use Rattle.map_chunks.proofs.KeptLemmas.{grows_on}
use Rattle.map_chunks.proofs.OpenLemmas.{known}
use Rattle.map_chunks.proofs.ScanLemmas.{chunk_rows-kept, got_any, pairs_all, pairs_begun, pairs_child, pairs_over}
use Rattle.map_chunks.proofs.ScanLemmas.{ref_rows, ref_turn, refs_known}
use Rattle.map_chunks.proofs.SearchLemmas.{length-keys_of, length-values_of}
use Rattle.map_chunks.proofs.WayLemmas.{leaf_is, rows_later}
use Rattle.transactions.specs.Rescans.{SoFar, HasFound}
use Rattle.transactions.specs.Spans.{Tells}
use Rattle.transactions.proofs.SpanLemmas.{kept_more, leaf_more, shown_more}
use Rattle.transactions.proofs.again.+again.Goals as goal

pub take_child-returns-in-Some-clause-more : goal.take_child-returns-in-Some-clause-more
take_child-returns-in-Some-clause-more g t c before all pre up spans tree =
    let scan = c.args.asked.scan.now in let told = g.B.PreviousRows.rows in let kept = c.in-Some.kept in
    let k = stamp_of c.args.at in let n = known (chunk_rows before k) tree in
    let new = c.keep.new.self in let same = c.find.ensures.same in
    let stamp = c.in-Some.ensures.span.1 ∙ ap (λ (w : ℕ). Some w) c.stamp.ensures.stamp in
    let tells = subst (λ (f : SoFar). Tells kept.span f.room) (sym same) c.in-Some.ensures.tells in
    subst (λ w. Took (HasFound scan all) c.args.again.now new c.args.again.now.room new.room
    (taken scan c.args.again.now.room (rows_or w))) (sym n.is)
    (subst (λ (f : SoFar). Took (HasFound scan all) f new f.room new.room (taken scan f.room n.rows)) same
    (kept_more scan all told c.args.asked.known.now kept.all.now kept.span k n.rows c.find.new.self new spans
    c.in-Some.ensures.span.0 stamp c.in-Some.ensures.all (chunk_rows-kept before all k n.rows up n.is) tells
    c.in_ok-keep.ensures.rows c.in_ok-keep.ensures.room c.in_ok-keep.ensures.spans))

pub take_child-returns-clause-more : goal.take_child-returns-clause-more
take_child-returns-clause-more g t c = on_ok c.take_shown.result c.take_shown.ensures.more
    (λ more before all pre up spans tree.
    let new = c.take_shown.new.again in
    subst (λ (f : SoFar). Took (HasFound c.args.asked.scan.now all) f new f.room new.room
    (taken c.args.asked.scan.now f.room (rows_or (chunk_rows before (stamp_of c.args.at))))) c.find.ensures.same
    (more before all pre up spans tree))

pub take_children-loop-place-init : goal.take_children-loop-place-init
take_children-loop-place-init g t c =
    record {
      grown = (([], append-nil (g.C.Chunks.contents c.args.chunks.now)), λ at h. h);
      more = λ before all pre up spans tree.
          let n = refs_known before c.args.below.firsts.now c.args.below.children.now tree in
          pairs_begun (ref_rows before) c.args.below.firsts.now c.args.below.children.now c.place_of-place.result n.rows
          c.args.asked.scan.now c.lowest.result.now (HasFound c.args.asked.scan.now all) c.args.again.now
          c.args.again.now.room c.requires.children n.is n.order c.lowest.ensures
          (subst (λ w. IsPlace w c.args.below.firsts.now c.place_of-place.result) c.as_str.ensures
          c.place_of-place.ensures);
    }

pub take_children-returns-then-is_over-clause-more : goal.take_children-returns-then-is_over-clause-more
take_children-returns-then-is_over-clause-more g t c before all pre up spans tree =
    let scan = c.args.asked.scan.now in
    let old = c.args.again.now in
    let new = c.loop-place.again in
    let n = refs_known before c.args.below.firsts.now c.args.below.children.now tree in
    let key = slice_index_or c.args.below.firsts.now c.loop-place.place c.index-below-place.result in
    let over = subst (λ (r : Option ℕ). is_over scan r key ≡ true) c.room.ensures
    (sym c.is_over.ensures ∙ c.if-is_over.true) in
    subst (λ w. Took (HasFound scan all) old new old.room new.room (taken scan old.room (rows_or w))) (sym n.is)
    (pairs_over (ref_rows before) c.args.below.firsts.now c.args.below.children.now c.loop-place.place n.rows
    scan (HasFound scan all) old new old.room new.room c.index-below-place.result c.requires.children n.is
    n.order c.loop-place-test.true c.index-below-place.is
    (c.loop-place.invariant.more before all pre up spans tree)
    (subst (λ w. is_over scan new.room w ≡ true) (sym c.index-below-place.is) over))

pub take_children-take_child-requires : goal.take_children-take_child-requires
take_children-take_child-requires g t c κs ws =
    let p = g.C.Chunks.contents c.args.chunks.now in
    let n = refs_known p c.args.below.firsts.now c.args.below.children.now c.requires.tree in
    let at = slice_index_or c.args.below.children.now c.loop-place.place (record { bits = 0 }) in
    let u = ref_turn p (g.C.Chunks.contents c.loop-place.chunks) c.args.below.firsts.now c.args.below.children.now
    c.loop-place.place at c.loop-place.invariant.grown.0 c.requires.children n c.loop-place-test.true
    (got_any c.args.below.children.now c.loop-place.place (record { bits = 0 }) at
    (omega (arith, c.requires.children, c.loop-place-test.true))) in
    let place = c.loop-place.invariant.grown.1 at
    (c.requires.places at (Contains-get_or c.args.below.children.now c.loop-place.place (record { bits = 0 })
    (omega (arith, c.requires.children, c.loop-place-test.true)))) in
    (omega (arith, u.low, c.decreases), (ws.0, (ws.1.0, (ws.1.1, (place, u.tree)))))

pub take_children-loop-place-preserved : goal.take_children-loop-place-preserved
take_children-loop-place-preserved g t c =
    let p = g.C.Chunks.contents c.args.chunks.now in
    let mid = g.C.Chunks.contents c.loop-place.chunks in
    let scan = c.args.asked.scan.now in
    let at = slice_index_or c.args.below.children.now c.loop-place.place (record { bits = 0 }) in
    let grown = c.loop-place.invariant.grown in
    record {
      grown = grows_on g.C.Chunks.contents g.C.Chunks.places c.args.chunks.now c.loop-place.chunks
          c.take_child.new.chunks grown c.take_child.ensures.grown;
      more = λ before all pre up spans tree.
          let n = refs_known before c.args.below.firsts.now c.args.below.children.now tree in
          let u = ref_turn before before c.args.below.firsts.now c.args.below.children.now c.loop-place.place at
          ([], append-nil before) c.requires.children n c.loop-place-test.true
          (got_any c.args.below.children.now c.loop-place.place (record { bits = 0 }) at
          (omega (arith, c.requires.children, c.loop-place-test.true))) in
          let old = c.loop-place.again in let new = c.take_child.new.again in
          pairs_child (ref_rows before) c.args.below.firsts.now c.args.below.children.now c.loop-place.place n.rows scan
          (HasFound scan all) c.args.again.now old new c.args.again.now.room old.room new.room u.turn
          (c.loop-place.invariant.more before all pre up spans tree)
          (subst (λ w. Took (HasFound scan all) old new old.room new.room (taken scan old.room (rows_or w))) u.rows_are
          (c.in_ok-take_child.ensures.more before all (prefix_trans before p mid pre grown.0) up spans u.tree));
    }

pub take_children-returns-clause-more : goal.take_children-returns-clause-more
take_children-returns-clause-more g t c before all pre up spans tree =
    let scan = c.args.asked.scan.now in
    let n = refs_known before c.args.below.firsts.now c.args.below.children.now tree in
    let old = c.args.again.now in let new = c.loop-place.again in
    subst (λ w. Took (HasFound scan all) old new old.room new.room (taken scan old.room w))
    (pairs_all (ref_rows before) c.args.below.firsts.now c.args.below.children.now c.loop-place.place n.rows
    c.requires.children n.is (omega (arith, c.place_of-place.ensures.0)) ∙ ap rows_or (sym n.is))
    (c.loop-place.invariant.more before all pre up spans tree)

pub take_chunk-returns-in-Leaf-clause-more : goal.take_chunk-returns-in-Leaf-clause-more
take_chunk-returns-in-Leaf-clause-more g t c before all pre up spans tree =
    let now = g.C.Chunks.contents c.args.chunks.now in
    let scan = c.args.asked.scan.now in
    let k = stamp_of c.args.at in
    let lies = subst (λ (ch : Chunk Ref). slice_get now k ≡ Some (chunk_content ch)) c.in-Leaf.is
    c.requires.shown.1 in
    let leaf = leaf_is now k c.in-Leaf.leaf c.requires.tree lies in
    let same : rows_or (chunk_rows before k) ≡ c.in-Leaf.leaf = ap rows_or
    (sym (rows_later before now k pre tree) ∙ leaf.0) in
    leaf_more scan all c.in-Leaf.leaf (rows_or (chunk_rows before k)) c.args.again.now c.take_leaf.new.self same
    c.in_ok-take_leaf-in-Leaf.ensures.rows c.in_ok-take_leaf-in-Leaf.ensures.room
    c.in_ok-take_leaf-in-Leaf.ensures.spans

pub take_chunk-take_children-requires : goal.take_chunk-take_children-requires
take_chunk-take_children-requires g t c κs ws =
    let p = g.C.Chunks.contents c.args.chunks.now in
    let shown = c.requires.shown in
    let tree = c.requires.tree in
    let kids = c.in-Inner.inner in
    let keys : c.as_slice.result.now
    ≡ keys_of kids = c.as_slice.ensures.keys ∙ c.deref.ensures ∙ c.firsts.ensures.keys in
    let children : c.children.result.now ≡ values_of kids = c.children.ensures in
    let pairs : paired c.as_slice.result.now c.children.result.now
    ≡ kids = ap (λ w. paired w c.children.result.now) keys ∙ ap
    (λ w. paired (keys_of kids) w) children ∙ paired-parts kids in
    let b = below p p (stamp_of c.args.at) c.args.chunk.now kids _ ([], append-nil p) tree shown.1 c.in-Inner.is
    pairs in (
      omega (arith, b.low, c.decreases),
      (
        ws.0,
        (
          ws.1.0,
          (
            ws.1.1,
            (
              subst (AreAll (g.C.Chunks.places c.args.chunks.now)) (sym children)
                  (subst (λ (ch : Chunk Ref). AreAll (g.C.Chunks.places c.args.chunks.now) (chunk_children ch))
                  c.in-Inner.is shown.0),
              (
                c.as_slice.ensures.order.1,
                (
                  omega (arith, ap length keys, ap length children, length-keys_of kids, length-values_of kids),
                  subst IsTree (sym b.rows) tree,
                ),
              ),
            ),
          ),
        ),
      ),
    )

pub take_chunk-returns-in-Inner-clause-more : goal.take_chunk-returns-in-Inner-clause-more
take_chunk-returns-in-Inner-clause-more g t c =
    let p = g.C.Chunks.contents c.args.chunks.now in
    let scan = c.args.asked.scan.now in
    let old = c.args.again.now in
    let new = c.take_children.new.again in
    let kids = c.in-Inner.inner in
    let keys : c.as_slice.result.now
    ≡ keys_of kids = c.as_slice.ensures.keys ∙ c.deref.ensures ∙ c.firsts.ensures.keys in
    let children : c.children.result.now ≡ values_of kids = c.children.ensures in
    let pairs : paired c.as_slice.result.now c.children.result.now
    ≡ kids = ap (λ w. paired w c.children.result.now) keys ∙ ap
    (λ w. paired (keys_of kids) w) children ∙ paired-parts kids in
    on_ok c.take_children.result c.take_children.ensures.more (λ more before all pre up spans tree.
    let b = below before p (stamp_of c.args.at) c.args.chunk.now kids _ pre tree c.requires.shown.1 c.in-Inner.is
    pairs in
    subst (λ w. Took (HasFound scan all) old new old.room new.room (taken scan old.room (rows_or w))) b.rows
    (more before all pre up spans (subst IsTree (sym b.rows) tree)))

pub take_shown-take_chunk-answer-requires : goal.take_shown-take_chunk-answer-requires
take_shown-take_chunk-answer-requires g t c κs ws =
    let p = g.C.Chunks.contents c.args.chunks.now in
    let q = g.C.Chunks.contents c.show.new.self in
    let k = stamp_of c.args.at in
    let tree = c.requires.tree in (
      omega (arith, c.decreases),
      (
        ws.0,
        (
          ws.1.0,
          (
            ws.1.1,
            (
              (
                subst (λ (ch : Chunk Ref). AreAll (g.C.Chunks.places c.show.new.self) (chunk_children ch))
                    (sym c.chunk.ensures) c.in_ok-held.ensures.children,
                subst (λ (ch : Chunk Ref). slice_get q k ≡ Some (chunk_content ch)) (sym c.chunk.ensures)
                    c.in_ok-held.ensures.content,
              ),
              subst IsTree (sym (rows_later p q k c.show.ensures.grown.0 tree)) tree,
            ),
          ),
        ),
      ),
    )

pub take_shown-returns-clause-more : goal.take_shown-returns-clause-more
take_shown-returns-clause-more g t c before all pre up spans tree =
    let p = g.C.Chunks.contents c.args.chunks.now in
    let q = g.C.Chunks.contents c.show.new.self in
    let scan = c.args.asked.scan.now in
    let k = stamp_of c.args.at in
    let n = known (chunk_rows before k) tree in
    let old = c.args.again.now in
    let begun = c.begin.new.self in
    let mid = c.take_chunk-answer.new.again in
    let new = c.end.new.self in
    let more = subst (λ w. Took (HasFound scan all) begun mid begun.room mid.room (taken scan begun.room (rows_or w)))
    n.is (c.in_ok-answer.ensures.more before all (prefix_trans before p q pre c.show.ensures.grown.0) up spans tree) in
    subst (λ w. Took (HasFound scan all) old new old.room new.room (taken scan old.room (rows_or w))) (sym n.is)
    (shown_more scan all k c.in_ok-begun.begun.from n.rows old begun mid new
    (chunk_rows-kept before all k n.rows up n.is) c.in_ok-begun.ensures.from c.in_ok-begun.ensures.rows
    c.in_ok-begun.ensures.room c.in_ok-begun.ensures.spans more c.end.ensures.rows c.end.ensures.room
    (λ s m. elim (c.end.ensures.spans s m) [
      | inl x ↦ inl x
      | inr y ↦ inr (y.0 ∙ ap (λ (w : ℕ). Some w) c.stamp.ensures.stamp, y.1, y.2, y.3)
    ]))
