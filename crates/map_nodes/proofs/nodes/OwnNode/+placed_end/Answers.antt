use Rattle.std.proofs.Common.{◌≡◌, ◌∙◌, ◌-◌, length, ap, sym, subst, arith}
use Rattle.group_history.specs.Rows.{paired}
use Rattle.map_nodes.specs.Inside.Ends.{end_of_pieces, end_of, IsEndBelow, IsKidBelow}
use Rattle.map_nodes.specs.Levels.{levels_of, parting, seen_levels}
use Rattle.map_nodes.specs.Nodes.{body_marks, body_pieces, kids_pieces, IsNode}
use Rattle.map_nodes.proofs.LevelLemmas.{inner-levels}
use Rattle.map_chunks.specs.Shown.{Seen}
use Rattle.map_nodes.specs.declared.nodes.Body.TheVariants.{Inner}
use Rattle.map_nodes.proofs.EndLemmas.{end-many, end-one, end-rows, many-below, one-below, rows-below}
use Rattle.map_nodes.proofs.nodes.OwnNode.+placed_end.Goals as goal

pub returns-then-len-ne1-clause-end : goal.returns-then-len-ne1-clause-end
returns-then-len-ne1-clause-end t c =
    let keys = c.self.inside.keys.texts in
    let kids = c.in-Inner.kids.items in
    let i : IsNode c.self.inside.depth keys (Inner c.in-Inner.kids) = subst
    (IsNode c.self.inside.depth keys) c.in-Inner.is c.self.invariant in
    let pieces : kids_pieces (c.self.inside.depth - 1) (paired keys kids)
    ≡ c.args.self.now.pieces = ap (body_pieces c.self.inside.depth keys) (sym c.in-Inner.is) ∙ ap
    (λ (s : Seen). s.pieces) c.self.view_is in
    end-many (c.self.inside.depth - 1) keys kids i.1.2 i.1.1
    (λ e. c.if-len-ne1.true (let q : c.len.result
    ≡ 1 = omega (arith, c.len.ensures, e, c.in-Inner.kids.ok.0) in q)) i.1.3
    ∙ ap end_of_pieces pieces

pub returns-in-Leaf-clause-end : goal.returns-in-Leaf-clause-end
returns-in-Leaf-clause-end t c =
    end-rows (paired c.self.inside.keys.texts c.in-Leaf.field-0.items)
    ∙ ap end_of_pieces (ap (body_pieces c.self.inside.depth c.self.inside.keys.texts) (sym c.in-Leaf.is) ∙ ap
    (λ (s : Seen). s.pieces) c.self.view_is)

pub returns-in-Placed-clause-end : goal.returns-in-Placed-clause-end
returns-in-Placed-clause-end t c =
    let keys = c.self.inside.keys.texts in
    let kids = c.in-Inner.kids.items in
    let i : IsNode c.self.inside.depth keys (Inner c.in-Inner.kids) = subst
    (IsNode c.self.inside.depth keys) c.in-Inner.is c.self.invariant in
    let one : length kids ≡ 1 = omega (arith, c.len.ensures, c.if-len-ne1.false, c.in-Inner.kids.ok.0) in
    let pieces : kids_pieces (c.self.inside.depth - 1) (paired keys kids)
    ≡ c.args.self.now.pieces = ap (body_pieces c.self.inside.depth keys) (sym c.in-Inner.is) ∙ ap
    (λ (s : Seen). s.pieces) c.self.view_is in
    sym (ap end_of c.in-Placed.is) ∙ end-one
    (c.self.inside.depth - 1) keys kids c.index.result.now i.1.2 one c.index.ensures ∙ ap end_of_pieces pieces

pub returns-in-Own-clause-end : goal.returns-in-Own-clause-end
returns-in-Own-clause-end t c =
    let keys = c.self.inside.keys.texts in
    let kids = c.in-Inner.kids.items in
    let i : IsNode c.self.inside.depth keys (Inner c.in-Inner.kids) = subst
    (IsNode c.self.inside.depth keys) c.in-Inner.is c.self.invariant in
    let one : length kids ≡ 1 = omega (arith, c.len.ensures, c.if-len-ne1.false, c.in-Inner.kids.ok.0) in
    let pieces : kids_pieces (c.self.inside.depth - 1) (paired keys kids)
    ≡ c.args.self.now.pieces = ap (body_pieces c.self.inside.depth keys) (sym c.in-Inner.is) ∙ ap
    (λ (s : Seen). s.pieces) c.self.view_is in
    c.placed_end.ensures.end ∙ ap (λ (s : Seen). end_of_pieces s.pieces) c.deref.ensures ∙ sym
    (ap end_of c.in-Own.is) ∙ end-one (c.self.inside.depth - 1) keys kids c.index.result.now i.1.2 one
    c.index.ensures ∙ ap end_of_pieces pieces

pub returns-in-Leaf-clause-below : goal.returns-in-Leaf-clause-below
returns-in-Leaf-clause-below t c =
    let depth = c.self.inside.depth in
    let keys = c.self.inside.keys.texts in
    subst (λ (s : Seen). IsEndBelow s.depth (seen_levels s) s.pieces) c.self.view_is
    (subst (λ b. IsEndBelow depth (λ p. levels_of p (body_marks depth keys b)) (body_pieces depth keys b))
    (sym c.in-Leaf.is) (rows-below depth _ (paired keys c.in-Leaf.field-0.items)))

pub returns-then-len-ne1-clause-below : goal.returns-then-len-ne1-clause-below
returns-then-len-ne1-clause-below t c =
    let depth = c.self.inside.depth in
    let keys = c.self.inside.keys.texts in
    let kids = c.in-Inner.kids.items in
    let i : IsNode depth keys (Inner c.in-Inner.kids) = subst (IsNode depth keys) c.in-Inner.is c.self.invariant in
    subst (λ (s : Seen). IsEndBelow s.depth (seen_levels s) s.pieces) c.self.view_is
    (subst (λ b. IsEndBelow depth (λ p. levels_of p (body_marks depth keys b)) (body_pieces depth keys b))
    (sym c.in-Inner.is)
    (many-below depth (depth - 1) _ keys kids i.1.2 i.1.1
    (λ e. c.if-len-ne1.true (let q : c.len.result
    ≡ 1 = omega (arith, c.len.ensures, e, c.in-Inner.kids.ok.0) in q)) i.1.3))

pub returns-in-Placed-clause-below : goal.returns-in-Placed-clause-below
returns-in-Placed-clause-below t c =
    let depth = c.self.inside.depth in
    let keys = c.self.inside.keys.texts in
    let kids = c.in-Inner.kids.items in
    let i : IsNode depth keys (Inner c.in-Inner.kids) = subst (IsNode depth keys) c.in-Inner.is c.self.invariant in
    let one : length kids ≡ 1 = omega (arith, c.len.ensures, c.if-len-ne1.false, c.in-Inner.kids.ok.0) in
    subst (λ (s : Seen). IsEndBelow s.depth (seen_levels s) s.pieces) c.self.view_is
    (subst (λ b. IsEndBelow depth (λ p. levels_of p (body_marks depth keys b)) (body_pieces depth keys b))
    (sym c.in-Inner.is)
    (one-below depth (λ p. levels_of p (body_marks depth keys (Inner c.in-Inner.kids))) keys kids c.index.result.now
    i.1.2 one c.index.ensures i.1.0 (λ p j. inner-levels p (depth - 1) (parting keys) kids j) i.1.3
    (subst IsKidBelow (sym c.in-Placed.is) tt)))

pub returns-in-Own-clause-below : goal.returns-in-Own-clause-below
returns-in-Own-clause-below t c =
    let depth = c.self.inside.depth in
    let keys = c.self.inside.keys.texts in
    let kids = c.in-Inner.kids.items in
    let i : IsNode depth keys (Inner c.in-Inner.kids) = subst (IsNode depth keys) c.in-Inner.is c.self.invariant in
    let one : length kids ≡ 1 = omega (arith, c.len.ensures, c.if-len-ne1.false, c.in-Inner.kids.ok.0) in
    subst (λ (s : Seen). IsEndBelow s.depth (seen_levels s) s.pieces) c.self.view_is
    (subst (λ b. IsEndBelow depth (λ p. levels_of p (body_marks depth keys b)) (body_pieces depth keys b))
    (sym c.in-Inner.is)
    (one-below depth (λ p. levels_of p (body_marks depth keys (Inner c.in-Inner.kids))) keys kids c.index.result.now
    i.1.2 one c.index.ensures i.1.0 (λ p j. inner-levels p (depth - 1) (parting keys) kids j) i.1.3
    (subst IsKidBelow (sym c.in-Own.is) (subst
    (λ (s : Seen). IsEndBelow s.depth (seen_levels s) s.pieces) c.deref.ensures c.placed_end.ensures.below))))
