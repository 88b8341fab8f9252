use Rattle.std.proofs.Common.{◌≡◌, arith, sym, ap, subst, ◌∙◌, IfOk, is_some, length}
use Rattle.group_history.specs.Refs.{stamp_of}
use Rattle.group_history.specs.Rows.{paired}
use Rattle.map_nodes.specs.declared.nodes.Body.TheVariants.{Leaf}
use Rattle.map_nodes.specs.Nodes.{body_pieces, IsNode}
use Rattle.map_chunks.specs.Seeking.{is_key_in}
use Rattle.map_chunks.specs.Places.{AreAll, places_of}
use Rattle.map_chunks.specs.Shown.{Seen, rows_or, shown, chunk_rows, IsTree}
use Rattle.map_chunks.proofs.OpenLemmas.{tree_of}
use Rattle.map_nodes.proofs.NodeLemmas.{node_down, inner_depth, down_placed, down_own, down-find, shown-rows}
use Rattle.map_nodes.proofs.PlaceLemmas.{down_may, placed_may, own_may}
use Rattle.map_nodes.proofs.nodes.OwnNode.+has.Goals as goal

pub seek_placed-requires-clause-known : goal.seek_placed-requires-clause-known
seek_placed-requires-clause-known g t c =
    let p = g.C.Chunks.contents c.args.chunks.now in
    let d = node_down p c.self.inside.depth c.self.inside.keys.texts c.self.inside.body c.in-Inner.kids
    c.args.self.now.pieces c.as_slice-in-Inner.result.now c.args.key.now
    c.place_of-place.result c.index.result.now
    (ap (λ (s : Seen). s.pieces) c.self.view_is) c.in-Inner.is c.self.invariant c.as_slice-in-Inner.ensures
    c.place_of-place.ensures c.index.ensures c.requires.1.1.1.1.1 in
    tree_of (chunk_rows p (stamp_of c.in-Placed.at)) d.way.here
    (down_placed p _ _ _ _ _ _ _ c.in-Placed.at d c.in-Placed.is) d.way.strict

pub seek_placed-requires-clause-place : goal.seek_placed-requires-clause-place
seek_placed-requires-clause-place g t c =
    placed_may (g.C.Chunks.places c.args.chunks.now) c.index.result.now c.in-Placed.at c.in-Placed.is
    (down_may (g.C.Chunks.places c.args.chunks.now) c.self.inside.depth c.self.inside.keys.texts c.self.inside.body
    c.in-Inner.kids c.args.self.now.pieces c.as_slice-in-Inner.result.now
    c.place_of-place.result c.index.result.now
    (ap (λ (s : Seen). s.pieces) c.self.view_is) c.in-Inner.is c.self.invariant c.as_slice-in-Inner.ensures
    c.place_of-place.ensures.0 c.index.ensures c.requires.1.1.1.1.0)

pub has-requires : goal.has-requires
has-requires g t c κs within =
    let p = g.C.Chunks.contents c.args.chunks.now in
    let d = node_down p c.self.inside.depth c.self.inside.keys.texts c.self.inside.body c.in-Inner.kids
    c.args.self.now.pieces c.as_slice-in-Inner.result.now c.args.key.now
    c.place_of-place.result c.index.result.now
    (ap (λ (s : Seen). s.pieces) c.self.view_is) c.in-Inner.is c.self.invariant c.as_slice-in-Inner.ensures
    c.place_of-place.ensures c.index.ensures c.requires.1.1.1.1.1 in
    let o = down_own p _ _ _ _ _ _ _ c.in-Own.node d c.in-Own.is in
    let z = inner_depth c.self.inside.depth c.self.inside.keys.texts c.self.inside.body c.in-Inner.kids c.in-Inner.is
    c.self.invariant in
    let here = ap (λ (s : Seen). s.depth) c.self.view_is in
    let all =
    down_may (g.C.Chunks.places c.args.chunks.now) c.self.inside.depth c.self.inside.keys.texts c.self.inside.body
    c.in-Inner.kids c.args.self.now.pieces c.as_slice-in-Inner.result.now
    c.place_of-place.result c.index.result.now
    (ap (λ (s : Seen). s.pieces) c.self.view_is) c.in-Inner.is c.self.invariant c.as_slice-in-Inner.ensures
    c.place_of-place.ensures.0 c.index.ensures c.requires.1.1.1.1.0 in
    let v = c.deref.ensures in (
      omega (arith, ap (λ (s : Seen). s.depth) v, o.1, z, here, c.requires.1.0),
      (
        within.0,
        (
          within.1,
          (
            subst (λ (s : Seen). AreAll (g.C.Chunks.places c.args.chunks.now) (places_of s.pieces)) (sym v)
                (own_may (g.C.Chunks.places c.args.chunks.now) c.index.result.now c.in-Own.node c.in-Own.is all),
            subst (λ (s : Seen). IsTree (shown p s.pieces)) (sym v)
                (tree_of (shown p c.in-Own.node.value.pieces) d.way.here o.0 d.way.strict),
          ),
        ),
      ),
    )

pub returns-in-Leaf-clause-has : goal.returns-in-Leaf-clause-has
returns-in-Leaf-clause-has g t c =
    let p = g.C.Chunks.contents c.args.chunks.now in
    let texts = c.self.inside.keys.texts in
    let values = c.in-Leaf.field-0 in
    let inv : IsNode c.self.inside.depth texts (Leaf values) = subst
    (IsNode c.self.inside.depth texts) c.in-Leaf.is c.self.invariant in
    let pieces = ap (body_pieces c.self.inside.depth texts) (sym c.in-Leaf.is) ∙ ap
    (λ (s : Seen). s.pieces) c.self.view_is in
    c.has_key.ensures values.items (inv.1.1 ∙ ap length (sym c.as_slice.ensures))
    ∙ ap (λ w. is_key_in (paired w values.items) c.new.result) c.as_slice.ensures
    ∙ ap (is_key_in (paired texts values.items)) c.new.ensures
    ∙ ap (λ w. is_key_in (rows_or w) c.args.key.now)
    (sym (ap (shown p) (sym pieces) ∙ shown-rows p (paired texts values.items)))

pub returns-in_ok-sought-in-Placed-clause-has : goal.returns-in_ok-sought-in-Placed-clause-has
returns-in_ok-sought-in-Placed-clause-has g t c =
    let p = g.C.Chunks.contents c.args.chunks.now in
    let d = node_down p c.self.inside.depth c.self.inside.keys.texts c.self.inside.body c.in-Inner.kids
    c.args.self.now.pieces c.as_slice-in-Inner.result.now c.args.key.now
    c.place_of-place.result c.index.result.now
    (ap (λ (s : Seen). s.pieces) c.self.view_is) c.in-Inner.is c.self.invariant c.as_slice-in-Inner.ensures
    c.place_of-place.ensures c.index.ensures c.requires.1.1.1.1.1 in
    c.in_ok-sought-in-Placed.ensures.is_there
    ∙ ap is_some (down-find p _ _ _ _ _ _ _ _ d (down_placed p _ _ _ _ _ _ _ c.in-Placed.at d c.in-Placed.is))

pub returns-in-Own-clause-has : goal.returns-in-Own-clause-has
returns-in-Own-clause-has g t c =
    let p = g.C.Chunks.contents c.args.chunks.now in
    let d = node_down p c.self.inside.depth c.self.inside.keys.texts c.self.inside.body c.in-Inner.kids
    c.args.self.now.pieces c.as_slice-in-Inner.result.now c.args.key.now
    c.place_of-place.result c.index.result.now
    (ap (λ (s : Seen). s.pieces) c.self.view_is) c.in-Inner.is c.self.invariant c.as_slice-in-Inner.ensures
    c.place_of-place.ensures c.index.ensures c.requires.1.1.1.1.1 in
    let o = down_own p _ _ _ _ _ _ _ c.in-Own.node d c.in-Own.is in
    subst (λ x. IfOk c.has.result (λ b. b ≡ is_some x))
    (down-find p _ _ _ _ _ _ _ _ d (ap (λ (s : Seen). shown p s.pieces) c.deref.ensures ∙ o.0))
    c.has.ensures.has
