use Rattle.std.proofs.Common.{◌≡◌, ◌<◌, ◌-◌, ◌∙◌, Some, OnOk, ap, sym, subst, arith, refl, get_or, length, set-set}
use Rattle.std.proofs.Common.{remove, [], ◌∷◌}
use Rattle.std.specs.Prelude.{IsSome}
use Rattle.std.specs.Box.{with_value}
use Rattle.group_history.specs.Refs.{stamp_of}
use Rattle.group_history.specs.Rows.{paired}
use Rattle.group_history.specs.Spelling.{rows_at}
use Rattle.map_chunks.specs.Places.{AreAll, AreKept, places_of}
use Rattle.map_nodes.specs.Inside.Freezing.{child_places, kids_places}
use Rattle.map_nodes.specs.Inside.Halves.{lowered}
use Rattle.map_nodes.specs.Nodes.{kids_pieces, row_pieces, IsNode, body_marks, child_levels, kids_marks, sunk}
use Rattle.map_nodes.specs.Inside.Nodes.{Kid, child_rows}
use Rattle.map_nodes.specs.Removing.{without_key}
use Rattle.map_nodes.specs.Inside.Removing.{CanRemove, HasOthers}
use Rattle.map_chunks.specs.Search.{IsPlace}
use Rattle.map_chunks.specs.Shown.{Seen, shown, rows_or, IsTree, leaf_keys, own}
use Rattle.map_nodes.specs.declared.nodes.Body.TheVariants.{Inner}
use Rattle.map_nodes.specs.declared.nodes.OwnChild.{OwnChild}
use Rattle.map_nodes.specs.declared.nodes.OwnChild.TheVariants.{Placed, Own}
use Rattle.map_chunks.proofs.AnswerLemmas.{both_ok, on_err, on_ok}
use Rattle.map_nodes.proofs.EndLemmas.{kids-removed}
use Rattle.map_chunks.proofs.KeptLemmas.{all_on, grows_on, kept-none, kept-same, kept-grown, kept-trans, kept-within}
use Rattle.map_chunks.proofs.KeptLemmas.{kept-from_none}
use Rattle.map_nodes.proofs.NamedLemmas.{kept-child, own-places, places-kids, places-rows}
use Rattle.map_nodes.proofs.NodeLemmas.{leaf_rows, shown-rows, child_at, node_down, written_back}
use Rattle.map_chunks.proofs.OpenLemmas.{known}
use Rattle.map_nodes.proofs.PathLemmas.{indexed_child}
use Rattle.map_nodes.proofs.RemoveLemmas.{can_at, fate_down, gone_at, stays_at, shown_later, fate_thin}
use Rattle.group_history.proofs.Lists.{prefix_trans}
use Rattle.map_chunks.proofs.SearchLemmas.{got}
use Rattle.map_nodes.proofs.CountLemmas.{leaf_counts}
use Rattle.map_nodes.proofs.LevelLemmas.{inner-levels}
use Rattle.map_nodes.proofs.RemoveLevels.{copied_deep, inner_seen_levels, leaf_left, over_gone, over_stays, shrunk_as}
use Rattle.map_nodes.proofs.RemoveLevels.{shrunk_copied}
use Rattle.map_nodes.specs.Levels.{levels_of, parting, placed_levels, seen_levels, AreShrunk, ShrunkLater}
use Rattle.map_nodes.proofs.ScanLemmas.{kid_shown-at}
use Rattle.map_nodes.proofs.PlaceLemmas.{down_may, kid_all, kids_may, own_may, placed_may, new_may}
use Rattle.map_nodes.proofs.nodes.+removing.Goals as goal

pub OwnNode::remove-returns-in-Leaf-clause-done : goal.OwnNode::remove-returns-in-Leaf-clause-done
OwnNode::remove-returns-in-Leaf-clause-done g t c =
    let p = g.C.Chunks.contents c.args.chunks.now in
    ap (λ w. shown p (row_pieces w)) c.in_ok-remove_row-in-Leaf.ensures.rows ∙ shown-rows p
    (without_key c.args.key.now (paired c.self.inside.keys.texts c.in-Leaf.values.items))
    ∙ ap (λ z. Some (without_key c.args.key.now (rows_or z)))
    (sym (leaf_rows p c.self.inside.depth c.self.inside.keys.texts c.self.inside.body c.in-Leaf.values
    c.args.self.now.pieces (ap (λ (s : Seen). s.pieces) c.self.view_is) c.in-Leaf.is))

pub OwnNode::remove-fate_of-requires-clause-places : goal.OwnNode::remove-fate_of-requires-clause-places
OwnNode::remove-fate_of-requires-clause-places g t c =
    down_may (g.C.Chunks.places c.args.chunks.now) c.self.inside.depth c.self.inside.keys.texts c.self.inside.body
    c.in-Inner.kids c.args.self.now.pieces c.as_slice-texts.result.now
    c.place_of-place.result c.index.result.now
    (ap (λ (s : Seen). s.pieces) c.self.view_is) c.in-Inner.is c.self.invariant c.as_slice-texts.ensures
    c.place_of-place.ensures.0 c.index.ensures c.requires.1.1.1.1.0

pub OwnNode::remove-fate_of-requires-clause-tree : goal.OwnNode::remove-fate_of-requires-clause-tree
OwnNode::remove-fate_of-requires-clause-tree g t c =
    let p = g.C.Chunks.contents c.args.chunks.now in
    let d = node_down p c.self.inside.depth c.self.inside.keys.texts c.self.inside.body c.in-Inner.kids
    c.args.self.now.pieces c.as_slice-texts.result.now c.args.key.now
    c.place_of-place.result c.index.result.now
    (ap (λ (s : Seen). s.pieces) c.self.view_is) c.in-Inner.is c.self.invariant c.as_slice-texts.ensures
    c.place_of-place.ensures c.index.ensures c.requires.1.1.1.1.1.0 in
    subst IsSome (sym (kid_shown-at p (c.self.inside.depth - 1) c.index.result.now d.way.here d.way.here_is)) refl

pub OwnNode::remove-remove_at-requires : goal.OwnNode::remove-remove_at-requires
OwnNode::remove-remove_at-requires g t c κs within =
    let p = g.C.Chunks.contents c.args.chunks.now in
    let q = g.C.Chunks.contents c.fate_of.new.chunks in
    let depth = c.self.inside.depth in
    let keys = c.self.inside.keys.texts in
    let kids = c.in-Inner.kids in
    let pieces = c.args.self.now.pieces in
    let r = c.requires.1.1.1.1.1 in
    let view = ap (λ (s : Seen). s.pieces) c.self.view_is in
    let here = ap (λ (s : Seen). s.depth) c.self.view_is in
    let known = fate_down p q depth keys c.as_slice-texts.result.now c.self.inside.body kids pieces c.args.key.now
    c.index-texts-place.result c.place_of-place.result c.index.result.now c.in_ok-fate-in-Inner.fate
    c.fate_of.ensures.grown.0 view c.in-Inner.is c.self.invariant c.as_slice-texts.ensures c.place_of-place.ensures
    c.index.ensures c.index-texts-place.is r.0 c.in_ok-fate-in-Inner.ensures.fate r.1 in (
      omega (arith, here, c.requires.1.0),
      (
        within.0,
        (
          within.1,
          (
            all_on (g.C.Chunks.places c.args.chunks.now)
                (g.C.Chunks.places c.fate_of.new.chunks) _ c.fate_of.ensures.grown.1
                (kids_may (g.C.Chunks.places c.args.chunks.now) depth keys c.self.inside.body kids pieces view
                c.in-Inner.is c.self.invariant c.requires.1.1.1.1.0),
            (
              record {
                node = subst (IsNode depth keys) c.in-Inner.is c.self.invariant;
                tree = subst IsTree (sym (shown_later p q depth keys c.self.inside.body kids pieces
                    c.fate_of.ensures.grown.0 view c.in-Inner.is r.0)) r.0;
                place = subst (λ w. IsPlace c.args.key.now w c.place_of-place.result) c.as_slice-texts.ensures
                    c.place_of-place.ensures;
                fate = known.0;
                thin = fate_thin p q depth keys c.as_slice-texts.result.now c.self.inside.body kids pieces
                    c.args.key.now c.place_of-place.result c.index.result.now c.in_ok-fate-in-Inner.fate view
                    c.in-Inner.is c.self.invariant c.as_slice-texts.ensures c.place_of-place.ensures c.index.ensures r.0
                    (c.in_ok-fate-in-Inner.ensures.thin (depth - 1));
              },
              known.1,
            ),
          ),
        ),
      ),
    )

pub OwnNode::remove-returns-in-Inner-clause-done : goal.OwnNode::remove-returns-in-Inner-clause-done
OwnNode::remove-returns-in-Inner-clause-done g t c =
    let p = g.C.Chunks.contents c.args.chunks.now in
    let q = g.C.Chunks.contents c.fate_of.new.chunks in
    let s = shown_later p q c.self.inside.depth c.self.inside.keys.texts c.self.inside.body c.in-Inner.kids
    c.args.self.now.pieces c.fate_of.ensures.grown.0 (ap (λ (s : Seen). s.pieces) c.self.view_is) c.in-Inner.is
    c.requires.1.1.1.1.1.0 in
    subst
    (λ x. OnOk c.remove_at.result (shown (g.C.Chunks.contents c.remove_at.new.chunks)
    (kids_pieces (c.self.inside.depth - 1) (paired c.remove_at.new.keys.texts c.remove_at.new.kids.items))
    ≡ Some (without_key c.args.key.now (rows_or x))))
    s c.remove_at.ensures.done

pub removing::paths::remove_at-returns-in-Leaves-clause-node :
    goal.removing::paths::remove_at-returns-in-Leaves-clause-node
removing::paths::remove_at-returns-in-Leaves-clause-node g t c =
    let can = c.requires.can in
    let way = c.args.removal in
    (gone_at (g.C.Chunks.contents c.args.chunks.now) c.args.depth c.args.keys.now.texts c.remove_entry.new.keys.texts
    c.args.kids.now c.remove_entry.new.entries.items way.key.now way.place (Placed (record { bits = 0 }))
    way.fate can.node can.tree can.place can.fate c.requires.others c.in-Leaves.is
    c.in_ok-remove_entry-in-Leaves.ensures.ok.0 c.in_ok-remove_entry-in-Leaves.ensures.ok.1).node

pub removing::paths::remove_at-returns-in-Leaves-clause-done :
    goal.removing::paths::remove_at-returns-in-Leaves-clause-done
removing::paths::remove_at-returns-in-Leaves-clause-done g t c =
    let can = c.requires.can in
    let way = c.args.removal in
    (gone_at (g.C.Chunks.contents c.args.chunks.now) c.args.depth c.args.keys.now.texts c.remove_entry.new.keys.texts
    c.args.kids.now c.remove_entry.new.entries.items way.key.now way.place (Placed (record { bits = 0 }))
    way.fate can.node can.tree can.place can.fate c.requires.others c.in-Leaves.is
    c.in_ok-remove_entry-in-Leaves.ensures.ok.0 c.in_ok-remove_entry-in-Leaves.ensures.ok.1).shown_is

pub removing::paths::remove_at-remove_child-requires : goal.removing::paths::remove_at-remove_child-requires
removing::paths::remove_at-remove_child-requires g t c κs within =
    let can = c.requires.can in
    let way = c.args.removal in (
      omega (arith, can.node.1.0, c.decreases),
      (
        within.0,
        (
          within.1,
          (
            c.requires.places,
            (
              omega (arith, can.place.0, can.node.1.2),
              can_at (g.C.Chunks.contents c.args.chunks.now) c.args.depth c.args.keys.now.texts c.args.kids.now
                  way.key.now way.place (Placed (record { bits = 0 })) way.fate c.in-Stays.first can.node can.tree
                  can.place can.fate c.in-Stays.is,
            ),
          ),
        ),
      ),
    )

pub removing::paths::remove_at-returns-in-Stays-clause-node :
    goal.removing::paths::remove_at-returns-in-Stays-clause-node
removing::paths::remove_at-returns-in-Stays-clause-node g t c =
    let can = c.requires.can in
    let way = c.args.removal in
    (stays_at (g.C.Chunks.contents c.args.chunks.now) (g.C.Chunks.contents c.remove_child.new.chunks) c.args.depth
    c.args.keys.now.texts c.set_first.new.keys.texts c.args.kids.now c.remove_child.new.kids.items way.key.now
    way.place (Placed (record { bits = 0 })) way.fate c.in-Stays.first c.remove_child.ensures.grown.0
    can.node can.tree can.place can.fate c.in-Stays.is
    (c.set_first.ensures ∙ ap (lowered way.place c.in-Stays.first) c.make_ready.ensures.texts)
    c.in_ok-remove_child-in-Stays.ensures.done).node

pub removing::paths::remove_at-returns-in-Stays-clause-done :
    goal.removing::paths::remove_at-returns-in-Stays-clause-done
removing::paths::remove_at-returns-in-Stays-clause-done g t c =
    let can = c.requires.can in
    let way = c.args.removal in
    (stays_at (g.C.Chunks.contents c.args.chunks.now) (g.C.Chunks.contents c.remove_child.new.chunks) c.args.depth
    c.args.keys.now.texts c.set_first.new.keys.texts c.args.kids.now c.remove_child.new.kids.items way.key.now
    way.place (Placed (record { bits = 0 })) way.fate c.in-Stays.first c.remove_child.ensures.grown.0
    can.node can.tree can.place can.fate c.in-Stays.is
    (c.set_first.ensures ∙ ap (lowered way.place c.in-Stays.first) c.make_ready.ensures.texts)
    c.in_ok-remove_child-in-Stays.ensures.done).shown_is

pub removing::paths::remove_child-remove-requires : goal.removing::paths::remove_child-remove-requires
removing::paths::remove_child-remove-requires g t c κs within =
    let may = g.C.Chunks.places c.args.chunks.now in
    let p = g.C.Chunks.contents c.args.chunks.now in
    let kids = c.args.kids.now.items in
    let child = c.index_mut.result.now in
    let r = c.requires.1.1.1.1.1 in
    let v = c.deref_mut.ensures.value in
    let can = subst (CanRemove p c.args.below c.args.key.now) c.in-Own.is
    (r.1 child (child_at kids c.args.place (length kids) child refl r.0 c.index_mut.ensures.value)) in (
      omega (arith, ap (λ (s : Seen). s.depth) v, can.1, c.requires.1.0),
      (
        within.0,
        (
          within.1,
          (
            subst (λ (s : Seen). AreAll may (places_of s.pieces)) (sym v)
                (own_may may child c.in-Own.node c.in-Own.is
                (kid_all may kids c.args.place child r.0 c.index_mut.ensures.value c.requires.1.1.1.1.0)),
            (
              subst (λ (s : Seen). IsTree (shown p s.pieces)) (sym v) can.0,
              subst (λ (s : Seen). 0 < length (without_key c.args.key.now (rows_or (shown p s.pieces)))) (sym v) can.2,
            ),
          ),
        ),
      ),
    )

pub removing::paths::remove_child-returns-in-Own-clause-done :
    goal.removing::paths::remove_child-returns-in-Own-clause-done
removing::paths::remove_child-returns-in-Own-clause-done g t c x h =
    let p = g.C.Chunks.contents c.args.chunks.now in
    let kids = c.args.kids.now.items in
    let child = c.index_mut.result.now in
    let r = c.requires.1.1.1.1.1 in
    let v = c.deref_mut.ensures.value in
    let can = subst (CanRemove p c.args.below c.args.key.now) c.in-Own.is
    (r.1 child (child_at kids c.args.place (length kids) child refl r.0 c.index_mut.ensures.value)) in
    let n : Kid = with_value c.in-Own.node c.remove.new.self in
    let e : x ≡ Own c.in-Own.node = indexed_child kids c.args.place child x r.0 c.index_mut.ensures.value h
    ∙ c.in-Own.is in
    let q = g.C.Chunks.contents c.remove.new.chunks in
    both_ok c.remove.result c.remove.ensures.done c.remove.ensures.levels (λ s l. (
      n,
      refl,
      c.remove.ensures.depth ∙ ap (λ (s : Seen). s.depth) v ∙ can.1,
      s ∙ ap (λ (m : Seen). Some (without_key c.args.key.now (rows_or (shown p m.pieces)))) v ∙ ap
          (λ y. Some (without_key c.args.key.now (rows_or (child_rows p c.args.below y)))) (sym e),
      subst (λ y. ShrunkLater q c.args.below (child_levels c.args.below y) (seen_levels c.remove.new.self)) (sym e)
          (subst (λ d. ShrunkLater q d (seen_levels c.in-Own.node.value) (seen_levels c.remove.new.self)) can.1
          (subst (λ (s : Seen). ShrunkLater q s.depth (seen_levels s) (seen_levels c.remove.new.self)) v l)),
    ))

pub removing::paths::remove_child-copied_child-requires-clause-place :
    goal.removing::paths::remove_child-copied_child-requires-clause-place
removing::paths::remove_child-copied_child-requires-clause-place g t c =
    let may = g.C.Chunks.places c.args.chunks.now in
    let child = c.index_mut.result.now in
    placed_may may child c.in-Placed.at c.in-Placed.is
    (kid_all may c.args.kids.now.items c.args.place child c.requires.1.1.1.1.1.0 c.index_mut.ensures.value
    c.requires.1.1.1.1.0)

pub removing::paths::remove_child-copied_child-requires-clause-known :
    goal.removing::paths::remove_child-copied_child-requires-clause-known
removing::paths::remove_child-copied_child-requires-clause-known g t c =
    let p = g.C.Chunks.contents c.args.chunks.now in
    let kids = c.args.kids.now.items in
    let child = c.index_mut.result.now in
    let r = c.requires.1.1.1.1.1 in
    let can = subst (CanRemove p c.args.below c.args.key.now) c.in-Placed.is
    (r.1 child (child_at kids c.args.place (length kids) child refl r.0 c.index_mut.ensures.value)) in
    let k = known (rows_at p c.args.below (stamp_of c.in-Placed.at)) can.0 in
    subst IsSome (sym k.is) refl

pub removing::paths::remove_child-remove-requires-in-Placed :
    goal.removing::paths::remove_child-remove-requires-in-Placed
removing::paths::remove_child-remove-requires-in-Placed g t c κs within =
    let p = g.C.Chunks.contents c.args.chunks.now in
    let kids = c.args.kids.now.items in
    let child = c.index_mut.result.now in
    let r = c.requires.1.1.1.1.1 in
    let can = subst (CanRemove p c.args.below c.args.key.now) c.in-Placed.is
    (r.1 child (child_at kids c.args.place (length kids) child refl r.0 c.index_mut.ensures.value)) in
    let q = g.C.Chunks.contents c.copied_child.new.chunks in
    let v = c.deref_mut-in-Placed.ensures.value in (
      omega (arith, ap (λ (s : Seen). s.depth) v, c.in_ok-node-in-Placed.ensures.depth, c.requires.1.0),
      (
        within.0,
        (
          within.1,
          (
            subst (λ (s : Seen). AreAll (g.C.Chunks.places c.copied_child.new.chunks) (places_of s.pieces)) (sym v)
                (new_may (g.C.Chunks.places c.copied_child.new.chunks)
                (places_of c.in_ok-node-in-Placed.node.value.pieces) c.in_ok-node-in-Placed.ensures.places),
            (
              subst (λ (s : Seen). IsTree (shown q s.pieces)) (sym v)
                  (subst IsTree (sym c.in_ok-node-in-Placed.ensures.rows) can.0),
              subst (λ (s : Seen). 0 < length (without_key c.args.key.now (rows_or (shown q s.pieces)))) (sym v)
                  (subst (λ z. 0 < length (without_key c.args.key.now (rows_or z)))
                  (sym c.in_ok-node-in-Placed.ensures.rows) can.2),
            ),
          ),
        ),
      ),
    )

pub removing::paths::remove_child-returns-in-Placed-clause-done :
    goal.removing::paths::remove_child-returns-in-Placed-clause-done
removing::paths::remove_child-returns-in-Placed-clause-done g t c x h =
    let p = g.C.Chunks.contents c.args.chunks.now in
    let kids = c.args.kids.now.items in
    let child = c.index_mut.result.now in
    let r = c.requires.1.1.1.1.1 in
    let n : Kid = with_value c.in_ok-node-in-Placed.node c.remove-in-Placed.new.self in
    let q = g.C.Chunks.contents c.copied_child.new.chunks in
    let v = c.deref_mut-in-Placed.ensures.value in
    let e : x ≡ Placed c.in-Placed.at = indexed_child kids c.args.place child x r.0 c.index_mut.ensures.value h ∙
    c.in-Placed.is in (
      n,
      set-set kids c.args.place (Placed c.in-Placed.at) (Own n),
      c.remove-in-Placed.ensures.depth ∙ ap (λ (s : Seen). s.depth) v ∙ c.in_ok-node-in-Placed.ensures.depth,
      c.in_ok-remove-in-Placed.ensures.done
          ∙ ap (λ z. Some (without_key c.args.key.now (rows_or z)))
          (ap (λ (s : Seen). shown q s.pieces) v ∙ c.in_ok-node-in-Placed.ensures.rows ∙ ap
          (child_rows p c.args.below) (sym e)),
      λ later pre. subst (λ y. AreShrunk c.args.below (child_levels c.args.below y later)
          (seen_levels c.remove-in-Placed.new.self later)) (sym e)
          (shrunk_copied c.args.below (placed_levels later c.args.below (stamp_of c.in-Placed.at))
          (seen_levels c.in_ok-node-in-Placed.node.value later) (seen_levels c.remove-in-Placed.new.self later)
          (copied_deep p c.args.below (stamp_of c.in-Placed.at) (subst (CanRemove p c.args.below c.args.key.now)
          c.in-Placed.is
          (r.1 child (child_at kids c.args.place (length kids) child refl r.0 c.index_mut.ensures.value))).0)
          (c.in_ok-node-in-Placed.ensures.levels later
          (prefix_trans q _ later c.remove-in-Placed.ensures.grown.0 pre))
          (subst (λ d. AreShrunk d (seen_levels c.in_ok-node-in-Placed.node.value later)
          (seen_levels c.remove-in-Placed.new.self later)) c.in_ok-node-in-Placed.ensures.depth
          (subst (λ (s : Seen). AreShrunk s.depth (seen_levels s later) (seen_levels c.remove-in-Placed.new.self later))
          v (c.in_ok-remove-in-Placed.ensures.levels later pre)))),
    )

pub removing::paths::remove_child-returns-in-Own-clause-err :
    goal.removing::paths::remove_child-returns-in-Own-clause-err
removing::paths::remove_child-returns-in-Own-clause-err g t c =
    on_err c.remove.result c.remove.ensures.err
    (λ e. written_back c.args.kids.now.items c.args.place c.index_mut.result.now c.in-Own.node c.remove.new.self
    c.index_mut.ensures.value c.in-Own.is (e ∙ c.deref_mut.ensures.value))

-- REFERENCES

pub removing::paths::remove_child-returns-in-Own-clause-places :
    goal.removing::paths::remove_child-returns-in-Own-clause-places
removing::paths::remove_child-returns-in-Own-clause-places g t c =
    let kids = c.args.kids.now.items in
    let child = c.index_mut.result.now in
    let at_q = g.C.Chunks.places c.remove.new.chunks in
    let n : Kid = with_value c.in-Own.node c.remove.new.self in
    on_ok c.remove.result c.remove.ensures.places
    (λ kept. kept-child at_q kids c.args.place child n c.requires.1.1.1.1.1.0 c.index_mut.ensures.value
    (subst (λ (x : OwnChild). AreKept at_q (child_places x) (places_of c.remove.new.self.pieces)) (sym c.in-Own.is)
    (subst (λ (s : Seen). AreKept at_q (places_of s.pieces) (places_of c.remove.new.self.pieces))
    c.deref_mut.ensures.value kept)))

pub removing::paths::remove_child-returns-in-Placed-clause-places :
    goal.removing::paths::remove_child-returns-in-Placed-clause-places
removing::paths::remove_child-returns-in-Placed-clause-places g t c =
    let kids = c.args.kids.now.items in
    let child = c.index_mut.result.now in
    let at_p = g.C.Chunks.places c.copied_child.new.chunks in
    let at_q = g.C.Chunks.places c.remove-in-Placed.new.chunks in
    let n : Kid = with_value c.in_ok-node-in-Placed.node c.remove-in-Placed.new.self in
    let mid = places_of c.in_ok-node-in-Placed.node.value.pieces in
    let new = places_of c.remove-in-Placed.new.self.pieces in
    let copied = kept-grown at_p at_q [] mid c.remove-in-Placed.ensures.grown.1 c.in_ok-node-in-Placed.ensures.places in
    let left = subst (λ (s : Seen). AreKept at_q (places_of s.pieces) new) c.deref_mut-in-Placed.ensures.value
    c.in_ok-remove-in-Placed.ensures.places in
    subst (λ ks. AreKept at_q (kids_places kids) (kids_places ks))
    (sym (set-set kids c.args.place (Placed c.in-Placed.at) (Own n)))
    (kept-child at_q kids c.args.place child n c.requires.1.1.1.1.1.0 c.index_mut.ensures.value
    (kept-from_none at_q (child_places child) new (kept-trans at_q [] mid new copied left)))

pub removing::paths::remove_at-returns-in-Leaves-clause-places :
    goal.removing::paths::remove_at-returns-in-Leaves-clause-places
removing::paths::remove_at-returns-in-Leaves-clause-places g t c =
    let way = c.args.removal in
    let at_p = g.C.Chunks.places c.args.chunks.now in
    let kids = c.args.kids.now.items in
    subst (λ ks. AreKept at_p (kids_places kids) (kids_places ks)) (sym c.in_ok-remove_entry-in-Leaves.ensures.ok.1)
    (kept-within at_p (kids_places kids) (kids_places (remove kids way.place)) (kids_places kids)
    (kids-removed kids way.place) (kept-same at_p (kids_places kids)))

pub OwnNode::remove-returns-in-Leaf-clause-places : goal.OwnNode::remove-returns-in-Leaf-clause-places
OwnNode::remove-returns-in-Leaf-clause-places g t c =
    let at_p = g.C.Chunks.places c.args.chunks.now in
    let old = places_of c.args.self.now.pieces in
    subst (AreKept at_p old) (sym (places-rows (paired c.remove_row.new.keys.texts c.remove_row.new.values.items)))
    (kept-none at_p old)

pub OwnNode::remove-returns-in-Inner-clause-places : goal.OwnNode::remove-returns-in-Inner-clause-places
OwnNode::remove-returns-in-Inner-clause-places g t c =
    let at_q = g.C.Chunks.places c.remove_at.new.chunks in
    let depth = c.self.inside.depth in
    let keys = c.self.inside.keys.texts in
    let node : IsNode depth keys (Inner c.in-Inner.kids) = subst (IsNode depth keys) c.in-Inner.is c.self.invariant in
    let old = own-places depth keys c.self.inside.body c.in-Inner.kids c.args.self.now.pieces
    (ap (λ (s : Seen). s.pieces) c.self.view_is) c.in-Inner.is node.1.2 in
    let new = places-kids (depth - 1) c.remove_at.new.keys.texts c.remove_at.new.kids.items
    c.remove_at.ensures.node.1.2 in
    on_ok c.remove_at.result c.remove_at.ensures.places
    (λ kept. subst (AreKept at_q (places_of c.args.self.now.pieces)) (sym new)
    (subst (λ w. AreKept at_q w (kids_places c.remove_at.new.kids.items)) (sym old) kept))

-- WHAT GREW

pub OwnNode::remove-returns-in-Inner-clause-grown : goal.OwnNode::remove-returns-in-Inner-clause-grown
OwnNode::remove-returns-in-Inner-clause-grown g t c =
    grows_on g.C.Chunks.contents g.C.Chunks.places _ _ _ c.fate_of.ensures.grown c.remove_at.ensures.grown

pub removing::paths::remove_child-returns-in-Placed-clause-grown :
    goal.removing::paths::remove_child-returns-in-Placed-clause-grown
removing::paths::remove_child-returns-in-Placed-clause-grown g t c =
    grows_on g.C.Chunks.contents g.C.Chunks.places _ _ _ c.copied_child.ensures.grown
    c.remove-in-Placed.ensures.grown

pub removing::paths::remove_child-returns-in_err-remove-in-Placed-clause-grown :
    goal.removing::paths::remove_child-returns-in_err-remove-in-Placed-clause-grown
removing::paths::remove_child-returns-in_err-remove-in-Placed-clause-grown g t c =
    grows_on g.C.Chunks.contents g.C.Chunks.places _ _ _ c.copied_child.ensures.grown
    c.remove-in-Placed.ensures.grown

-- LEVELS

pub OwnNode::remove-returns-in-Leaf-clause-levels : goal.OwnNode::remove-returns-in-Leaf-clause-levels
OwnNode::remove-returns-in-Leaf-clause-levels g t c later pre =
    let keys = c.self.inside.keys.texts in
    let nk = c.remove_row.new.keys.texts in
    let old = ap (body_marks c.self.inside.depth keys) (sym c.in-Leaf.is) ∙ ap (λ (s : Seen). s.marks) c.self.view_is in
    let n = leaf_counts c.self.inside.depth keys c.self.inside.body c.in-Leaf.values c.in-Leaf.is c.self.invariant in
    subst (λ d. AreShrunk d (seen_levels c.args.self.now later) (levels_of later (own 0 (leaf_keys nk) ∷ [])))
    (sym n ∙ ap (λ (s : Seen). s.depth) c.self.view_is)
    (subst (λ m. AreShrunk 1 (levels_of later m) (levels_of later (own 0 (leaf_keys nk) ∷ []))) old
    (leaf_left later keys nk c.in_ok-remove_row-in-Leaf.ensures.left))

pub OwnNode::remove-returns-in-Inner-clause-levels : goal.OwnNode::remove-returns-in-Inner-clause-levels
OwnNode::remove-returns-in-Inner-clause-levels g t c =
    let depth = c.self.inside.depth in
    let nk = c.remove_at.new.keys.texts in
    let ne = c.remove_at.new.kids.items in
    on_ok c.remove_at.result c.remove_at.ensures.levels (λ l later pre.
    subst (λ d. AreShrunk d (seen_levels c.args.self.now later)
    (levels_of later (own 0 (parting nk) ∷ sunk (kids_marks (depth - 1) ne)))) (ap (λ (s : Seen). s.depth)
    c.self.view_is)
    (shrunk_as depth _ _ (seen_levels c.args.self.now later)
    (levels_of later (own 0 (parting nk) ∷ sunk (kids_marks (depth - 1) ne)))
    (inner_seen_levels later depth c.self.inside.keys.texts c.self.inside.body c.in-Inner.kids c.args.self.now
    (ap (λ (s : Seen). s.marks) c.self.view_is) c.in-Inner.is)
    (inner-levels later (depth - 1) (parting nk) ne) (l later pre)))

pub removing::paths::remove_at-returns-in-Leaves-clause-levels :
    goal.removing::paths::remove_at-returns-in-Leaves-clause-levels
removing::paths::remove_at-returns-in-Leaves-clause-levels g t c later pre =
    let can = c.requires.can in
    let way = c.args.removal in
    let kids = c.args.kids.now.items in
    let x = get_or kids way.place (Placed (record { bits = 0 })) in
    let here = got kids way.place (Placed (record { bits = 0 })) (omega (arith, can.place.0, can.node.1.2)) in
    over_gone later c.args.depth can.node.1.0 c.args.keys.now.texts c.remove_entry.new.keys.texts kids
    c.remove_entry.new.entries.items way.place x can.place.0
    (subst (λ w. HasOthers w (length c.args.keys.now.texts)) c.in-Leaves.is c.requires.others)
    c.in_ok-remove_entry-in-Leaves.ensures.ok.0 c.in_ok-remove_entry-in-Leaves.ensures.ok.1 here
    ((can.thin x here c.in-Leaves.is).1 later pre)

pub removing::paths::remove_at-returns-in-Stays-clause-levels :
    goal.removing::paths::remove_at-returns-in-Stays-clause-levels
removing::paths::remove_at-returns-in-Stays-clause-levels g t c later pre =
    let can = c.requires.can in
    let way = c.args.removal in
    let kids = c.args.kids.now.items in
    let x = get_or kids way.place (Placed (record { bits = 0 })) in
    let here = got kids way.place (Placed (record { bits = 0 })) (omega (arith, can.place.0, can.node.1.2)) in
    let done = c.in_ok-remove_child-in-Stays.ensures.done x here in
    over_stays later c.args.depth can.node.1.0 c.args.keys.now.texts c.set_first.new.keys.texts kids
    c.remove_child.new.kids.items way.place x (Own done.0) c.in-Stays.first can.place.0
    (c.set_first.ensures ∙ ap (lowered way.place c.in-Stays.first) c.make_ready.ensures.texts) done.1 here
    (done.4 later pre)
