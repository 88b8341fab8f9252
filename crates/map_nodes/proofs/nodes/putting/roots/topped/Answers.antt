use Rattle.std.proofs.Common.{◌≡◌, ◌∙◌, ◌++◌, Some, ap, arith, get_or, length, subst, sym}
use Rattle.map_chunks.proofs.OpenLemmas.{known}
use Rattle.map_chunks.specs.Shown.{Seen, shown}
use Rattle.map_nodes.proofs.NodeLemmas.{headed}
use Rattle.map_nodes.proofs.RootLemmas.{head_append, heads, two}
use Rattle.map_nodes.specs.Inside.Halves.{half_pieces, IsHalf}
use Rattle.map_nodes.specs.Nodes.{body_pieces, HeadIs}
use Rattle.map_nodes.proofs.nodes.putting.roots.topped.Goals as goal

pub root_above-requires-clause-order : goal.root_above-requires-clause-order
root_above-requires-clause-order c =
    let p = c.requires.order.0 in
    let lower = c.args.node.value.pieces in
    let upper = c.in-Some.half.node.value.pieces in
    let n = known (shown p (lower ++ half_pieces c.args.half)) c.requires.order.1 in
    let e : shown p (lower ++ upper) ≡ Some n.rows = ap (λ h. shown p (lower ++ half_pieces h)) (sym c.in-Some.is)
    ∙ n.is in
    let half : IsHalf 1 c.args.node.value.depth (Some c.in-Some.half) =
    subst (IsHalf 1 c.args.node.value.depth) c.in-Some.is
    c.requires.half in
    let first = c.in_ok-first.first in
    let keys = c.behind-node.inside.keys.texts in
    let pieces : body_pieces c.behind-node.inside.depth keys c.behind-node.inside.body ≡ lower =
    ap (λ (s : Seen). s.pieces)
    (c.behind-node.view_is ∙ c.deref.ensures) in
    let d = c.index-as_slice-0.result in
    let at : get_or keys 0 d ≡ first = ap (λ ks. get_or ks 0 d) (sym c.as_slice.ensures) ∙ sym c.index-as_slice-0.is
    ∙ sym c.in_ok-first.ensures.cases in
    let head : HeadIs first lower = subst (λ k. HeadIs k lower) at (subst (HeadIs (get_or keys 0 d)) pieces
    (heads c.behind-node.inside.depth keys c.behind-node.inside.body d c.behind-node.invariant
    (omega (arith, ap length pieces, c.requires.filled)))) in
    (two p first half.1.0 lower upper n.rows e n.order (headed p first (lower ++ upper) n.rows
    (head_append first lower upper head) e) c.requires.filled half.1.1).order
