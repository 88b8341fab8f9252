use Rattle.std.proofs.Common.{[], true, None, Some, ◌≡◌, ◌∙◌, refl, ap, sym, subst, arith, length, slice_get}
use Rattle.std.proofs.Common.{slice_index_or}
use Rattle.std.proofs.lemmas.List.{append-nil}
use Rattle.std.proofs.lemmas.List.Elements.{Contains-get_or}
use Rattle.group_history.specs.declared.nodes.Chunk.{Chunk}
use Rattle.group_history.specs.declared.refs.Ref.{Ref}
use Rattle.group_history.specs.Naming.{chunk_children, chunk_content}
use Rattle.group_history.specs.Refs.{stamp_of}
use Rattle.group_history.specs.Rows.{paired, keys_of, values_of}
use Rattle.group_history.proofs.Lists.{prefix_trans}
use Rattle.group_history.proofs.Pairs.{paired-parts}
use Rattle.map_chunks.specs.Covers.{Covers}
use Rattle.map_chunks.specs.Places.{AreAll}
use Rattle.map_chunks.specs.Scanning.{scanned, is_over}
use Rattle.map_chunks.specs.Search.{IsPlace}
use Rattle.map_chunks.specs.Shown.{IsTree, rows_or}
use Rattle.map_chunks.specs.Sinks.{HasMore}
use Rattle.map_chunks.proofs.AnswerLemmas.{on_ok}
use Rattle.map_chunks.proofs.CoverLemmas.{below, cover_tree}
use Rattle.map_chunks.proofs.KeptLemmas.{grows_on}
use Rattle.map_chunks.proofs.ScanLemmas.{got_any, pairs_all, pairs_begun, pairs_child, pairs_over, ref_rows, ref_turn}
use Rattle.map_chunks.proofs.ScanLemmas.{refs_known}
use Rattle.map_chunks.proofs.SearchLemmas.{length-keys_of, length-values_of}
use Rattle.map_chunks.proofs.WayLemmas.{rows_later}
use Rattle.map_chunks.proofs.covers.+covering.Goals as goal

pub add_child-returns-then-has-clause-cover : goal.add_child-returns-then-has-clause-cover
add_child-returns-then-has-clause-cover g t c before pre tree = cover_tree c.args.asked.scan.now before
    c.args.stamps.now.items c.add.new.stamps.items (stamp_of c.args.at) c.in_ok-add.ensures tree

pub add_children-loop-place-init : goal.add_children-loop-place-init
add_children-loop-place-init g t c =
    record {
      grown = (([], append-nil (g.C.Chunks.contents c.args.chunks.now)), λ at h. h);
      cover = λ before pre tree.
          let n = refs_known before c.args.below.firsts.now c.args.below.children.now tree in
          pairs_begun (ref_rows before) c.args.below.firsts.now c.args.below.children.now c.place_of-place.result n.rows
          c.args.asked.scan.now c.lowest.result.now (Covers c.args.asked.scan.now before) c.args.stamps.now.items None
          c.requires.children n.is n.order c.lowest.ensures
          (subst (λ w. IsPlace w c.args.below.firsts.now c.place_of-place.result) c.as_str.ensures
          c.place_of-place.ensures);
    }

pub add_children-returns-then-is_over-clause-cover : goal.add_children-returns-then-is_over-clause-cover
add_children-returns-then-is_over-clause-cover g t c before pre tree =
    let scan = c.args.asked.scan.now in
    let old = c.args.stamps.now.items in
    let new = c.loop-place.stamps.items in
    let n = refs_known before c.args.below.firsts.now c.args.below.children.now tree in
    let took = pairs_over (ref_rows before) c.args.below.firsts.now c.args.below.children.now c.loop-place.place n.rows
    scan (Covers scan before) old new None None c.index-below-place.result c.requires.children n.is n.order
    c.loop-place-test.true c.index-below-place.is (c.loop-place.invariant.cover before pre tree)
    (subst (λ w. is_over scan None w ≡ true) (sym c.index-below-place.is)
    (sym c.is_over.ensures ∙ c.if-is_over.true)) in
    subst (λ w. HasMore (Covers scan before) old new (scanned scan (rows_or w))) (sym n.is) took.rows

pub add_children-add_child-requires : goal.add_children-add_child-requires
add_children-add_child-requires g t c κs ws =
    let p = g.C.Chunks.contents c.args.chunks.now in
    let n = refs_known p c.args.below.firsts.now c.args.below.children.now c.requires.tree in
    let at = slice_index_or c.args.below.children.now c.loop-place.place (record { bits = 0 }) in
    let u = ref_turn p (g.C.Chunks.contents c.loop-place.chunks) c.args.below.firsts.now c.args.below.children.now
    c.loop-place.place at c.loop-place.invariant.grown.0 c.requires.children n c.loop-place-test.true
    (got_any c.args.below.children.now c.loop-place.place (record { bits = 0 }) at
    (omega (arith, c.requires.children, c.loop-place-test.true))) in
    let place = c.loop-place.invariant.grown.1 at
    (c.requires.places at (Contains-get_or c.args.below.children.now c.loop-place.place (record { bits = 0 })
    (omega (arith, c.requires.children, c.loop-place-test.true)))) in
    (omega (arith, u.low, c.decreases), (ws.0, (ws.1, (place, u.tree))))

pub add_children-loop-place-preserved : goal.add_children-loop-place-preserved
add_children-loop-place-preserved g t c =
    let p = g.C.Chunks.contents c.args.chunks.now in
    let mid = g.C.Chunks.contents c.loop-place.chunks in
    let scan = c.args.asked.scan.now in
    let at = slice_index_or c.args.below.children.now c.loop-place.place (record { bits = 0 }) in
    let grown = c.loop-place.invariant.grown in
    record {
      grown = grows_on g.C.Chunks.contents g.C.Chunks.places c.args.chunks.now c.loop-place.chunks
          c.add_child.new.chunks grown c.add_child.ensures.grown;
      cover = λ before pre tree.
          let n = refs_known before c.args.below.firsts.now c.args.below.children.now tree in
          let u = ref_turn before before c.args.below.firsts.now c.args.below.children.now c.loop-place.place at
          ([], append-nil before) c.requires.children n c.loop-place-test.true
          (got_any c.args.below.children.now c.loop-place.place (record { bits = 0 }) at
          (omega (arith, c.requires.children, c.loop-place-test.true))) in
          pairs_child (ref_rows before) c.args.below.firsts.now c.args.below.children.now c.loop-place.place n.rows scan
          (Covers scan before) c.args.stamps.now.items c.loop-place.stamps.items c.add_child.new.stamps.items None None
          None u.turn (c.loop-place.invariant.cover before pre tree)
          (record {
            rows = subst (λ w. HasMore (Covers scan before) c.loop-place.stamps.items c.add_child.new.stamps.items
                (scanned scan (rows_or w))) u.rows_are
                (c.in_ok-add_child.ensures.cover before (prefix_trans before p mid pre grown.0) u.tree);
            room = refl;
          });
    }

pub add_children-returns-clause-cover : goal.add_children-returns-clause-cover
add_children-returns-clause-cover g t c before pre tree =
    let scan = c.args.asked.scan.now in
    let n = refs_known before c.args.below.firsts.now c.args.below.children.now tree in
    subst (λ w. HasMore (Covers scan before) c.args.stamps.now.items c.loop-place.stamps.items (scanned scan w))
    (pairs_all (ref_rows before) c.args.below.firsts.now c.args.below.children.now c.loop-place.place n.rows
    c.requires.children n.is (omega (arith, c.place_of-place.ensures.0)) ∙ ap rows_or (sym n.is))
    (c.loop-place.invariant.cover before pre tree).rows

pub add_chunk-returns-in-Leaf-clause-cover : goal.add_chunk-returns-in-Leaf-clause-cover
add_chunk-returns-in-Leaf-clause-cover g t c before pre tree = cover_tree c.args.asked.scan.now before
    c.args.stamps.now.items c.add.new.stamps.items (stamp_of c.args.at) c.in_ok-add-in-Leaf.ensures tree

pub add_chunk-add_children-requires : goal.add_chunk-add_children-requires
add_chunk-add_children-requires g t c κs ws =
    let p = g.C.Chunks.contents c.args.chunks.now in
    let shown = c.requires.shown in
    let tree = c.requires.tree in
    let kids = c.in-Inner.inner in
    let keys : c.as_slice.result.now
    ≡ keys_of kids = c.as_slice.ensures.keys ∙ c.deref.ensures ∙ c.firsts.ensures.keys in
    let children : c.children.result.now ≡ values_of kids = c.children.ensures in
    let pairs : paired c.as_slice.result.now c.children.result.now
    ≡ kids = ap (λ w. paired w c.children.result.now) keys ∙ ap
    (λ w. paired (keys_of kids) w) children ∙ paired-parts kids in
    let b = below p p (stamp_of c.args.at) c.args.chunk.now kids _ ([], append-nil p) tree shown.1 c.in-Inner.is
    pairs in (
      omega (arith, b.low, c.decreases),
      (
        ws.0,
        (
          ws.1,
          (
            subst (AreAll (g.C.Chunks.places c.args.chunks.now)) (sym children)
                (subst (λ (ch : Chunk Ref). AreAll (g.C.Chunks.places c.args.chunks.now) (chunk_children ch))
                c.in-Inner.is shown.0),
            (
              c.as_slice.ensures.order.1,
              (
                omega (arith, ap length keys, ap length children, length-keys_of kids, length-values_of kids),
                subst IsTree (sym b.rows) tree,
              ),
            ),
          ),
        ),
      ),
    )

pub add_chunk-returns-in-Inner-clause-cover : goal.add_chunk-returns-in-Inner-clause-cover
add_chunk-returns-in-Inner-clause-cover g t c =
    let p = g.C.Chunks.contents c.args.chunks.now in
    let scan = c.args.asked.scan.now in
    let old = c.args.stamps.now.items in
    let new = c.add_children.new.stamps.items in
    let kids = c.in-Inner.inner in
    let keys : c.as_slice.result.now
    ≡ keys_of kids = c.as_slice.ensures.keys ∙ c.deref.ensures ∙ c.firsts.ensures.keys in
    let children : c.children.result.now ≡ values_of kids = c.children.ensures in
    let pairs : paired c.as_slice.result.now c.children.result.now
    ≡ kids = ap (λ w. paired w c.children.result.now) keys ∙ ap
    (λ w. paired (keys_of kids) w) children ∙ paired-parts kids in
    on_ok c.add_children.result c.add_children.ensures.cover (λ more before pre tree.
    let b = below before p (stamp_of c.args.at) c.args.chunk.now kids _ pre tree c.requires.shown.1 c.in-Inner.is
    pairs in
    subst (λ w. HasMore (Covers scan before) old new (scanned scan (rows_or w))) b.rows
    (more before pre (subst IsTree (sym b.rows) tree)))

pub add_shown-add_chunk-answer-requires : goal.add_shown-add_chunk-answer-requires
add_shown-add_chunk-answer-requires g t c κs ws =
    let p = g.C.Chunks.contents c.args.chunks.now in
    let q = g.C.Chunks.contents c.show.new.self in
    let k = stamp_of c.args.at in
    let tree = c.requires.tree in (
      omega (arith, c.decreases),
      (
        ws.0,
        (
          ws.1,
          (
            (
              subst (λ (ch : Chunk Ref). AreAll (g.C.Chunks.places c.show.new.self) (chunk_children ch))
                  (sym c.chunk.ensures) c.in_ok-held.ensures.children,
              subst (λ (ch : Chunk Ref). slice_get q k ≡ Some (chunk_content ch)) (sym c.chunk.ensures)
                  c.in_ok-held.ensures.content,
            ),
            subst IsTree (sym (rows_later p q k c.show.ensures.grown.0 tree)) tree,
          ),
        ),
      ),
    )
