use Rattle.std.proofs.Common.{◌≡◌, ◌∙◌, ◌-◌, [], length, ap, sym, subst, arith}
use Rattle.group_history.specs.Rows.{paired}
use Rattle.map_nodes.specs.Inside.Ends.{end_of_pieces, NarrowsLater}
use Rattle.map_nodes.specs.Levels.{levels_of, parting, seen_levels}
use Rattle.map_nodes.specs.Nodes.{body_height, body_marks, body_pieces, kids_pieces, IsNode}
use Rattle.map_nodes.proofs.LevelLemmas.{inner-levels}
use Rattle.map_chunks.specs.Shown.{Seen}
use Rattle.map_nodes.specs.declared.nodes.Body.TheVariants.{Inner}
use Rattle.map_nodes.proofs.EndLemmas.{end-one, taken-pieces, taken-below}
use Rattle.map_nodes.proofs.ScanLemmas.{kid_height}
use Rattle.map_nodes.proofs.nodes.+taken.Goals as goal

pub OwnNode::narrowed-taken-requires : goal.OwnNode::narrowed-taken-requires
OwnNode::narrowed-taken-requires t c =
    let keys = c.self.inside.keys.texts in
    let kids = c.in-Inner.kids.items in
    let i : IsNode c.self.inside.depth keys (Inner c.in-Inner.kids) = subst
    (IsNode c.self.inside.depth keys) c.in-Inner.is c.self.invariant in
    let one : length kids ≡ 1 = omega (arith, c.len.ensures, c.if-len-ne1.false, c.in-Inner.kids.ok.0) in
    let pieces : kids_pieces (c.self.inside.depth - 1) (paired keys kids)
    ≡ c.args.self.pieces = ap (body_pieces c.self.inside.depth keys) (sym c.in-Inner.is) ∙ ap
    (λ (s : Seen). s.pieces) c.self.view_is in
    let high : body_height (Inner c.in-Inner.kids)
    ≡ c.args.self.height = ap body_height (sym c.in-Inner.is) ∙ ap (λ (s : Seen). s.height) c.self.view_is in
    let h = kid_height kids 0 c.swap_remove.result (omega (arith, one)) c.swap_remove.ensures.value in (
      omega (arith, h, high, c.decreases),
      end-one
          (c.self.inside.depth - 1) keys kids c.swap_remove.result i.1.2 one c.swap_remove.ensures.value ∙ ap
          end_of_pieces pieces ∙ c.requires,
    )

pub OwnNode::narrowed-returns-in-Inner-clause-pieces : goal.OwnNode::narrowed-returns-in-Inner-clause-pieces
OwnNode::narrowed-returns-in-Inner-clause-pieces t c =
    let keys = c.self.inside.keys.texts in
    let kids = c.in-Inner.kids.items in
    let i : IsNode c.self.inside.depth keys (Inner c.in-Inner.kids) = subst
    (IsNode c.self.inside.depth keys) c.in-Inner.is c.self.invariant in
    let one : length kids ≡ 1 = omega (arith, c.len.ensures, c.if-len-ne1.false, c.in-Inner.kids.ok.0) in
    taken-pieces (c.self.inside.depth - 1) keys kids c.swap_remove.result c.taken.result i.1.2 one
    c.swap_remove.ensures.value c.taken.ensures
    ∙ ap (body_pieces c.self.inside.depth keys) (sym c.in-Inner.is) ∙ ap (λ (s : Seen). s.pieces) c.self.view_is

pub OwnNode::narrowed-returns-in-Inner-clause-levels : goal.OwnNode::narrowed-returns-in-Inner-clause-levels
OwnNode::narrowed-returns-in-Inner-clause-levels t c =
    let depth = c.self.inside.depth in
    let keys = c.self.inside.keys.texts in
    let kids = c.in-Inner.kids.items in
    let n = c.taken.result in
    let i : IsNode depth keys (Inner c.in-Inner.kids) = subst (IsNode depth keys) c.in-Inner.is c.self.invariant in
    let one : length kids ≡ 1 = omega (arith, c.len.ensures, c.if-len-ne1.false, c.in-Inner.kids.ok.0) in
    subst (λ (s : Seen). NarrowsLater [] s.depth n.depth (seen_levels s) (seen_levels n)) c.self.view_is
    (subst (λ b. NarrowsLater [] depth n.depth (λ p. levels_of p (body_marks depth keys b)) (seen_levels n))
    (sym c.in-Inner.is)
    (taken-below depth (λ p. levels_of p (body_marks depth keys (Inner c.in-Inner.kids))) keys kids
    c.swap_remove.result n i.1.2 one c.swap_remove.ensures.value i.1.0
    (λ p j. inner-levels p (depth - 1) (parting keys) kids j) i.1.3 c.taken.ensures))
