use Rattle.std.proofs.Common.{◌∙◌, ◌-◌, [], ◌∷◌, length, Some, ap, refl, sym, subst}
use Rattle.group_history.specs.Rows.{paired}
use Rattle.map_chunks.specs.Places.{AreKept, places_of}
use Rattle.map_nodes.specs.Inside.Freezing.{kids_places}
use Rattle.group_history.specs.Refs.{stamp_of}
use Rattle.map_nodes.specs.Levels.{levels_of, parting, placed_levels, seen_levels, AreShrunk, RemovedLater}
use Rattle.map_nodes.specs.Nodes.{body_levels, body_marks, body_pieces, kids_marks, row_pieces, sunk, IsNode}
use Rattle.map_nodes.specs.Removing.{root_left, root_rows, without_key, IsRootRemoved}
use Rattle.map_nodes.specs.Inside.Removing.{left_places, IsRootLeft}
use Rattle.map_nodes.proofs.CountLemmas.{leaf_counts}
use Rattle.map_nodes.proofs.LevelLemmas.{inner-levels}
use Rattle.map_nodes.proofs.RemoveLevels.{inner_seen_levels, leaf_left, removed_as, still_root}
use Rattle.map_chunks.specs.Shown.{own, leaf_keys, Seen, shown, rows_or, IsTree}
use Rattle.map_nodes.specs.declared.nodes.Body.TheVariants.{Inner}
use Rattle.map_chunks.proofs.AnswerLemmas.{if_ok_so}
use Rattle.map_chunks.proofs.KeptLemmas.{kept-none}
use Rattle.map_nodes.proofs.NamedLemmas.{own-places, places-kids, places-rows}
use Rattle.map_nodes.proofs.NodeLemmas.{leaf_rows, shown-rows}
use Rattle.map_nodes.proofs.PlaceLemmas.{kids_may}
use Rattle.map_nodes.proofs.nodes.OwnNode.remove_root.Goals as goal

pub returns-in-Leaf-clause-done : goal.returns-in-Leaf-clause-done
returns-in-Leaf-clause-done g c =
    let p = g.C.Chunks.contents c.args.chunks.now in
    let keys = c.remove_in_root.new.keys.texts in
    let rows = paired keys c.remove_in_root.new.values.items in
    let seen : Seen = record {
      depth = c.self.inside.depth;
      entries = length keys;
      pieces = row_pieces rows;
      height = 1;
      marks = own 0 (leaf_keys keys) ∷ [];
    } in
    if_ok_so c.remove_in_root.result c.remove_in_root.ensures.rows (λ root left.
    ap (root_rows p seen) left.0 ∙ ap (λ w. shown p (row_pieces w)) left.1 ∙ shown-rows p
    (without_key c.args.key.now (paired c.self.inside.keys.texts c.in-Leaf.values.items))
    ∙ ap (λ z. Some (without_key c.args.key.now (rows_or z)))
    (sym (leaf_rows p c.self.inside.depth c.self.inside.keys.texts c.self.inside.body c.in-Leaf.values
    c.args.self.now.pieces (ap (λ (s : Seen). s.pieces) c.self.view_is) c.in-Leaf.is)))

pub returns-in-Leaf-clause-places : goal.returns-in-Leaf-clause-places
returns-in-Leaf-clause-places g c =
    let at_p = g.C.Chunks.places c.args.chunks.now in
    let old = places_of c.args.self.now.pieces in
    let keys = c.remove_in_root.new.keys.texts in
    let rows = paired keys c.remove_in_root.new.values.items in
    let seen : Seen = record {
      depth = c.self.inside.depth;
      entries = length keys;
      pieces = row_pieces rows;
      height = 1;
      marks = own 0 (leaf_keys keys) ∷ [];
    } in
    if_ok_so c.remove_in_root.result c.remove_in_root.ensures.rows (λ root left.
    subst (λ r. AreKept at_p old (root_left seen r)) (sym left.0)
    (subst (AreKept at_p old) (sym (places-rows rows)) (kept-none at_p old)))

pub remove_inner-requires-clause-places : goal.remove_inner-requires-clause-places
remove_inner-requires-clause-places g c =
    kids_may (g.C.Chunks.places c.args.chunks.now) c.self.inside.depth c.self.inside.keys.texts c.self.inside.body
    c.in-Inner.kids c.args.self.now.pieces
    (ap (λ (s : Seen). s.pieces) c.self.view_is) c.in-Inner.is c.self.invariant c.requires.places

pub remove_inner-requires-clause-node : goal.remove_inner-requires-clause-node
remove_inner-requires-clause-node g c = subst
    (IsNode c.self.inside.depth c.self.inside.keys.texts) c.in-Inner.is c.self.invariant

pub remove_inner-requires-clause-tree : goal.remove_inner-requires-clause-tree
remove_inner-requires-clause-tree g c =
    let depth = c.self.inside.depth in
    let keys = c.self.inside.keys.texts in
    let kids = c.in-Inner.kids in
    let view = ap (body_pieces depth keys) (sym c.in-Inner.is) ∙ ap (λ (s : Seen). s.pieces) c.self.view_is in
    subst (λ ps. IsTree (shown (g.C.Chunks.contents c.args.chunks.now) ps)) (sym view) c.requires.tree

pub returns-in-None-clause-places : goal.returns-in-None-clause-places
returns-in-None-clause-places g c =
    let at_q = g.C.Chunks.places c.remove_inner.new.chunks in
    let keys = c.self.inside.keys.texts in
    let node : IsNode c.self.inside.depth keys (Inner c.in-Inner.kids) = subst
    (IsNode c.self.inside.depth keys) c.in-Inner.is c.self.invariant in
    let old = own-places c.self.inside.depth keys c.self.inside.body c.in-Inner.kids c.args.self.now.pieces
    (ap (λ (s : Seen). s.pieces) c.self.view_is) c.in-Inner.is node.1.2 in
    let left = subst (λ o. AreKept at_q (kids_places c.in-Inner.kids.items)
    (left_places c.remove_inner.new.kids.items o)) c.in-None.is c.in_ok-remove_inner-in-Inner.ensures.places in
    let new = places-kids (c.self.inside.depth - 1) c.remove_inner.new.keys.texts c.remove_inner.new.kids.items
    (c.in_ok-remove_inner-in-Inner.ensures.node c.in-None.is).1.2 in
    subst (AreKept at_q (places_of c.args.self.now.pieces)) (sym new)
    (subst (λ w. AreKept at_q w (kids_places c.remove_inner.new.kids.items)) (sym old) left)

pub returns-in-Some-Placed-clause-places : goal.returns-in-Some-Placed-clause-places
returns-in-Some-Placed-clause-places g c =
    let at_q = g.C.Chunks.places c.remove_inner.new.chunks in
    let keys = c.self.inside.keys.texts in
    let node : IsNode c.self.inside.depth keys (Inner c.in-Inner.kids) = subst
    (IsNode c.self.inside.depth keys) c.in-Inner.is c.self.invariant in
    let old = own-places c.self.inside.depth keys c.self.inside.body c.in-Inner.kids c.args.self.now.pieces
    (ap (λ (s : Seen). s.pieces) c.self.view_is) c.in-Inner.is node.1.2 in
    let left = subst (λ o. AreKept at_q (kids_places c.in-Inner.kids.items)
    (left_places c.remove_inner.new.kids.items o))
    (c.in-Some-Placed.is ∙ ap (λ h. Some h) c.in-Some-Placed.field-0-is)
    c.in_ok-remove_inner-in-Inner.ensures.places in
    subst (λ w. AreKept at_q w (c.in-Some-Placed.at ∷ [])) (sym old) left

pub returns-in-Some-Own-clause-places : goal.returns-in-Some-Own-clause-places
returns-in-Some-Own-clause-places g c =
    let at_q = g.C.Chunks.places c.remove_inner.new.chunks in
    let keys = c.self.inside.keys.texts in
    let node : IsNode c.self.inside.depth keys (Inner c.in-Inner.kids) = subst
    (IsNode c.self.inside.depth keys) c.in-Inner.is c.self.invariant in
    let old = own-places c.self.inside.depth keys c.self.inside.body c.in-Inner.kids c.args.self.now.pieces
    (ap (λ (s : Seen). s.pieces) c.self.view_is) c.in-Inner.is node.1.2 in
    let left = subst (λ o. AreKept at_q (kids_places c.in-Inner.kids.items)
    (left_places c.remove_inner.new.kids.items o))
    (c.in-Some-Own.is ∙ ap (λ h. Some h) c.in-Some-Own.field-0-is) c.in_ok-remove_inner-in-Inner.ensures.places in
    subst (λ (s : Seen). AreKept at_q (places_of c.args.self.now.pieces) (places_of s.pieces)) (sym c.node.view_is)
    (subst (λ w. AreKept at_q w (places_of c.in-Some-Own.node.pieces)) (sym old) left)

pub returns-in-Leaf-clause-levels : goal.returns-in-Leaf-clause-levels
returns-in-Leaf-clause-levels g c =
    let p = g.C.Chunks.contents c.args.chunks.now in
    let depth = c.self.inside.depth in
    let keys = c.self.inside.keys.texts in
    let nk = c.remove_in_root.new.keys.texts in
    let rows = paired nk c.remove_in_root.new.values.items in
    let seen : Seen = record {
      depth = depth;
      entries = length nk;
      pieces = row_pieces rows;
      height = 1;
      marks = own 0 (leaf_keys nk) ∷ [];
    } in
    let old = ap (body_marks depth keys) (sym c.in-Leaf.is) ∙ ap (λ (s : Seen). s.marks) c.self.view_is in
    let n = leaf_counts depth keys c.self.inside.body c.in-Leaf.values c.in-Leaf.is c.self.invariant in
    if_ok_so c.remove_in_root.result c.remove_in_root.ensures.left (λ root left.
    subst (IsRootRemoved p c.args.self.now.depth (seen_levels c.args.self.now) seen) (sym left.0)
    (subst (λ d. RemovedLater c.args.self.now.depth d p (seen_levels c.args.self.now) (seen_levels seen))
    (sym (ap (λ (s : Seen). s.depth) c.self.view_is))
    (still_root p c.args.self.now.depth (seen_levels c.args.self.now) (seen_levels seen)
    (λ later pre. subst (λ d. AreShrunk d (seen_levels c.args.self.now later)
    (levels_of later (own 0 (leaf_keys nk) ∷ []))) (sym n ∙ ap (λ (s : Seen). s.depth) c.self.view_is)
    (subst (λ m. AreShrunk 1 (levels_of later m) (levels_of later (own 0 (leaf_keys nk) ∷ []))) old
    (leaf_left later keys nk left.1))))))

pub returns-in-None-clause-levels : goal.returns-in-None-clause-levels
returns-in-None-clause-levels g c =
    let q = g.C.Chunks.contents c.remove_inner.new.chunks in
    let depth = c.self.inside.depth in
    let keys = c.self.inside.keys.texts in
    let nk = c.remove_inner.new.keys.texts in
    let ne = c.remove_inner.new.kids.items in
    let left = subst (IsRootLeft q depth (body_levels depth keys (Inner c.in-Inner.kids)) nk ne) c.in-None.is
    c.in_ok-remove_inner-in-Inner.ensures.levels in
    subst (λ d. RemovedLater d depth q (seen_levels c.args.self.now)
    (λ p. levels_of p (own 0 (parting nk) ∷ sunk (kids_marks (depth - 1) ne))))
    (ap (λ (s : Seen). s.depth) c.self.view_is)
    (removed_as q depth depth _ _ (seen_levels c.args.self.now) _
    (λ p pre i. inner_seen_levels p depth keys c.self.inside.body c.in-Inner.kids c.args.self.now
    (ap (λ (s : Seen). s.marks) c.self.view_is) c.in-Inner.is i)
    (λ p pre i. inner-levels p (depth - 1) (parting nk) ne i) left)

pub returns-in-Some-Placed-clause-levels : goal.returns-in-Some-Placed-clause-levels
returns-in-Some-Placed-clause-levels g c =
    let q = g.C.Chunks.contents c.remove_inner.new.chunks in
    let depth = c.self.inside.depth in
    let keys = c.self.inside.keys.texts in
    let left = subst (IsRootLeft q depth (body_levels depth keys (Inner c.in-Inner.kids)) c.remove_inner.new.keys.texts
    c.remove_inner.new.kids.items) (c.in-Some-Placed.is ∙ ap (λ h. Some h) c.in-Some-Placed.field-0-is)
    c.in_ok-remove_inner-in-Inner.ensures.levels in (
      left.0,
      left.1,
      subst (λ d. RemovedLater d left.0 q (seen_levels c.args.self.now)
          (λ p. placed_levels p left.0 (stamp_of c.in-Some-Placed.at))) (ap (λ (s : Seen). s.depth) c.self.view_is)
          (removed_as q depth left.0 _ _ (seen_levels c.args.self.now)
          (λ p. placed_levels p left.0 (stamp_of c.in-Some-Placed.at))
          (λ p pre i. inner_seen_levels p depth keys c.self.inside.body c.in-Inner.kids c.args.self.now
          (ap (λ (s : Seen). s.marks) c.self.view_is) c.in-Inner.is i) (λ p pre i. refl) left.2),
    )

pub returns-in-Some-Own-clause-levels : goal.returns-in-Some-Own-clause-levels
returns-in-Some-Own-clause-levels g c =
    let q = g.C.Chunks.contents c.remove_inner.new.chunks in
    let depth = c.self.inside.depth in
    let keys = c.self.inside.keys.texts in
    let n = c.in-Some-Own.node in
    let left = subst (IsRootLeft q depth (body_levels depth keys (Inner c.in-Inner.kids)) c.remove_inner.new.keys.texts
    c.remove_inner.new.kids.items) (c.in-Some-Own.is ∙ ap (λ h. Some h) c.in-Some-Own.field-0-is)
    c.in_ok-remove_inner-in-Inner.ensures.levels in
    subst (λ (s : Seen). RemovedLater c.args.self.now.depth s.depth q (seen_levels c.args.self.now) (seen_levels s))
    (sym c.node.view_is)
    (subst (λ d. RemovedLater d n.depth q (seen_levels c.args.self.now) (seen_levels n))
    (ap (λ (s : Seen). s.depth) c.self.view_is)
    (removed_as q depth n.depth _ _ (seen_levels c.args.self.now) (seen_levels n)
    (λ p pre i. inner_seen_levels p depth keys c.self.inside.body c.in-Inner.kids c.args.self.now
    (ap (λ (s : Seen). s.marks) c.self.view_is) c.in-Inner.is i) (λ p pre i. refl) left))
