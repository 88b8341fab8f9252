use Rattle.std.proofs.Common.{◌≡◌, ◌-◌, ◌∙◌, ap, sym, subst, arith, refl, slice_get}
use Rattle.std.specs.Prelude.{IsSome}
use Rattle.std.specs.Option.{option_or}
use Rattle.map_chunks.proofs.AnswerLemmas.{if_ok_so}
use Rattle.map_nodes.proofs.RemoveLevels.{both_none, kid_thin, leaf_thin, over_thin}
use Rattle.map_nodes.proofs.EndLemmas.{first_kid_is}
use Rattle.map_nodes.specs.Inside.Halves.{HasDepth}
use Rattle.map_nodes.specs.Inside.Removing.{IsThinLater}
use Rattle.map_nodes.specs.Levels.{seen_levels}
use Rattle.group_history.proofs.Pairs.{keys_of-paired}
use Rattle.map_nodes.specs.Nodes.{body_height, body_marks, body_pieces, child_levels, IsNode}
use Rattle.map_chunks.specs.SecondKeys.{second_key}
use Rattle.map_chunks.specs.Shown.{Seen, shown, rows_or}
use Rattle.map_nodes.specs.declared.nodes.Body.TheVariants.{Leaf, Inner}
use Rattle.map_nodes.proofs.NodeLemmas.{leaf_rows}
use Rattle.map_nodes.proofs.ScanLemmas.{kids_shown-is, kid_height}
use Rattle.map_nodes.proofs.SecondLemmas.{first_kid}
use Rattle.map_chunks.proofs.Shelves.{some_of}
use Rattle.map_nodes.proofs.PlaceLemmas.{kid_all, kids_may}
use Rattle.map_nodes.proofs.nodes.+second.Goals as goal

pub OwnNode::second-kid_second-requires : goal.OwnNode::second-kid_second-requires
OwnNode::second-kid_second-requires g t c κs within =
    let p = g.C.Chunks.contents c.args.chunks.now in
    let n = some_of (shown p c.args.self.now.pieces) c.requires.tree in
    let i : IsNode c.self.inside.depth c.self.inside.keys.texts (Inner c.in-Inner.kids) = subst
    (IsNode c.self.inside.depth c.self.inside.keys.texts) c.in-Inner.is c.self.invariant in
    let k = kids_shown-is p c.self.inside.depth c.self.inside.keys.texts c.self.inside.body c.in-Inner.kids
    c.args.self.now.pieces n.0 (ap (λ (s : Seen). s.pieces) c.self.view_is) c.in-Inner.is c.self.invariant n.1 in
    let f = first_kid p c.self.inside.keys.texts c.in-Inner.kids.items c.index.result.now n.0 i.1.2 i.1.1
    c.index.ensures k in
    let high : body_height (Inner c.in-Inner.kids)
    ≡ c.args.self.now.height = ap body_height (sym c.in-Inner.is) ∙ ap (λ (s : Seen). s.height) c.self.view_is in
    let h = kid_height c.in-Inner.kids.items 0 c.index.result.now (omega (arith, i.1.2, i.1.1)) c.index.ensures in
    let may = kid_all (g.C.Chunks.places c.args.chunks.now) c.in-Inner.kids.items 0 c.index.result.now
    (omega (arith, i.1.2, i.1.1)) c.index.ensures
    (kids_may (g.C.Chunks.places c.args.chunks.now) c.self.inside.depth c.self.inside.keys.texts c.self.inside.body
    c.in-Inner.kids c.args.self.now.pieces
    (ap (λ (s : Seen). s.pieces) c.self.view_is) c.in-Inner.is c.self.invariant c.requires.places) in
    (omega (arith, h, high, c.decreases), (within.0, (within.1, (may, subst IsSome (sym f.shown_is) refl))))

pub OwnNode::second-returns-in-Leaf-clause-key : goal.OwnNode::second-returns-in-Leaf-clause-key
OwnNode::second-returns-in-Leaf-clause-key g t c =
    let p = g.C.Chunks.contents c.args.chunks.now in
    let keys = c.self.inside.keys.texts in
    let i : IsNode c.self.inside.depth keys (Leaf c.in-Leaf.field-0) = subst
    (IsNode c.self.inside.depth keys) c.in-Leaf.is c.self.invariant in
    c.in_ok-next.ensures ∙ ap (λ w. slice_get w 1)
    (c.as_slice.ensures ∙ sym (keys_of-paired keys c.in-Leaf.field-0.items i.1.1))
    ∙ ap (λ w. second_key (rows_or w)) (sym
    (leaf_rows p c.self.inside.depth keys c.self.inside.body c.in-Leaf.field-0 c.args.self.now.pieces
    (ap (λ (s : Seen). s.pieces) c.self.view_is) c.in-Leaf.is))

pub OwnNode::second-returns-in_ok-key-in-Inner-clause-key : goal.OwnNode::second-returns-in_ok-key-in-Inner-clause-key
OwnNode::second-returns-in_ok-key-in-Inner-clause-key g t c =
    let p = g.C.Chunks.contents c.args.chunks.now in
    let n = some_of (shown p c.args.self.now.pieces) c.requires.tree in
    let i : IsNode c.self.inside.depth c.self.inside.keys.texts (Inner c.in-Inner.kids) = subst
    (IsNode c.self.inside.depth c.self.inside.keys.texts) c.in-Inner.is c.self.invariant in
    let k = kids_shown-is p c.self.inside.depth c.self.inside.keys.texts c.self.inside.body c.in-Inner.kids
    c.args.self.now.pieces n.0 (ap (λ (s : Seen). s.pieces) c.self.view_is) c.in-Inner.is c.self.invariant n.1 in
    let f = first_kid p c.self.inside.keys.texts c.in-Inner.kids.items c.index.result.now n.0 i.1.2 i.1.1
    c.index.ensures k in
    c.or.ensures ∙ ap (λ w. option_or w c.in_ok-next.next)
    (c.in_ok-key-in-Inner.ensures.key ∙ ap (λ w. second_key (rows_or w)) f.shown_is)
    ∙ ap (option_or (second_key f.front)) (c.in_ok-next.ensures ∙ ap (λ w. slice_get w 1) c.as_slice.ensures)
    ∙ f.second_is ∙ ap (λ w. second_key (rows_or w)) (sym n.1)

pub OwnNode::second-returns-in-Leaf-clause-thin : goal.OwnNode::second-returns-in-Leaf-clause-thin
OwnNode::second-returns-in-Leaf-clause-thin g t c e =
    let keys = c.self.inside.keys.texts in
    let i : IsNode c.self.inside.depth keys (Leaf c.in-Leaf.field-0) = subst
    (IsNode c.self.inside.depth keys) c.in-Leaf.is c.self.invariant in
    leaf_thin (g.C.Chunks.contents c.args.chunks.now) c.args.self.now keys
    (sym (ap (λ (s : Seen). s.depth) c.self.view_is) ∙ i.1.0)
    (sym (ap (body_marks c.self.inside.depth keys) (sym c.in-Leaf.is) ∙ ap (λ (s : Seen). s.marks) c.self.view_is))
    (ap (λ w. slice_get w 1) (sym c.as_slice.ensures) ∙ sym c.in_ok-next.ensures ∙ e)

pub OwnNode::second-returns-in_ok-key-in-Inner-clause-thin : goal.OwnNode::second-returns-in_ok-key-in-Inner-clause-thin
OwnNode::second-returns-in_ok-key-in-Inner-clause-thin g t c e =
    let p = g.C.Chunks.contents c.args.chunks.now in
    let q = g.C.Chunks.contents c.kid_second.new.chunks in
    let depth = c.self.inside.depth in
    let keys = c.self.inside.keys.texts in
    let kids = c.in-Inner.kids.items in
    let kid = c.index.result.now in
    let n = some_of (shown p c.args.self.now.pieces) c.requires.tree in
    let i : IsNode depth keys (Inner c.in-Inner.kids) = subst (IsNode depth keys) c.in-Inner.is c.self.invariant in
    let none = both_none c.in_ok-key-in-Inner.key c.in_ok-next.next (sym c.or.ensures ∙ e) in
    let first = first_kid_is p (depth - 1) keys kids kid n.0 i.1.2 i.1.1 i.1.3 c.index.ensures
    (ap (λ b. shown p (body_pieces depth keys b)) (sym c.in-Inner.is) ∙ ap (λ (s : Seen). shown p s.pieces)
    c.self.view_is ∙ n.1) in
    over_thin q depth keys kids kid c.args.self.now (sym (ap (λ (s : Seen). s.depth) c.self.view_is))
    (sym (ap (body_marks depth keys) (sym c.in-Inner.is) ∙ ap (λ (s : Seen). s.marks) c.self.view_is)) i.1.0 i.1.2 i.1.1
    (ap (λ w. slice_get w 1) (sym c.as_slice.ensures) ∙ sym c.in_ok-next.ensures ∙ none.1) c.index.ensures
    (c.in_ok-key-in-Inner.ensures.thin (depth - 1) first.0 first.1 none.0)

pub removing::fates::kid_second-returns-in-Placed-clause-thin :
    goal.removing::fates::kid_second-returns-in-Placed-clause-thin
removing::fates::kid_second-returns-in-Placed-clause-thin g t c below h s =
    if_ok_so c.second_placed.result c.second_placed.ensures.key (λ key k e.
    kid_thin (g.C.Chunks.contents c.args.chunks.now) (g.C.Chunks.contents c.second_placed.new.chunks) below
    c.args.kid.now c.in-Placed.at key c.second_placed.ensures.grown.0 c.in-Placed.is s k e)

pub removing::fates::kid_second-returns-in-Own-clause-thin : goal.removing::fates::kid_second-returns-in-Own-clause-thin
removing::fates::kid_second-returns-in-Own-clause-thin g t c below h s =
    let q = g.C.Chunks.contents c.second.new.chunks in
    let d : c.in-Own.node.value.depth ≡ below = subst (HasDepth below) c.in-Own.is h in
    if_ok_so c.second.result c.second.ensures.thin (λ key thin e.
    subst (λ w. IsThinLater q below (child_levels below w)) (sym c.in-Own.is)
    (subst (λ w. IsThinLater q w (seen_levels c.in-Own.node.value)) d
    (subst (λ (s : Seen). IsThinLater q s.depth (seen_levels s)) c.deref.ensures (thin e))))
