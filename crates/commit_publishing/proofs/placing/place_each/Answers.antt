use Rattle.std.proofs.Common.{◌≡◌, ◌∷◌, ◌++◌, [], length, map, refl, ap, sym, subst, ◌∙◌, arith, rules, append_assoc}
use Rattle.std.proofs.Common.{length-append}
use Rattle.std.specs.Vec.Iter.{into_iter_items}
use Rattle.head_word.specs.Books.{drawn}
use Rattle.group_history.specs.Refs.{slot_of}
use Rattle.commit_publishing.specs.Inside.Stacks.{Uses}
use Rattle.commit_publishing.specs.Stamped.{AreFrom}
use Rattle.commit_publishing.proofs.Lying.{none_lie}
use Rattle.commit_publishing.proofs.Numbers.{from_more, turn_drawn}
use Rattle.commit_publishing.proofs.Stepping.{no_step, steps_steps}
use Rattle.commit_publishing.proofs.placing.place_each.Goals as goal

pub loop-node-init : goal.loop-node-init
loop-node-init g c =
    let v = g.S.Slots.view c.args.seat.now in
    let none = c.requires.refs in
    record {
      can = tt;
      finite = tt;
      whole = search rules;
      home = c.requires.home;
      taken = c.requires.taken;
      within = λ r end below. (below, none_lie end c.args.refs.now.items none);
      placed = ap length none;
      left = omega (arith, c.requires.slots);
      stamps = subst (AreFrom c.args.to.now.first) (sym none) tt;
      used = λ r. subst (λ ats. Uses v (map slot_of ats) [] v) (sym none) (refl, refl);
      steps = λ r. no_step v;
    }

pub place_next-requires-clause-drawn : goal.place_next-requires-clause-drawn
place_next-requires-clause-drawn g c κs within =
    let is = c.loop-node.invariant in
    let rest = into_iter_items c.next.new.self in
    let node = c.in-Some.node in
    let whole : c.args.nodes.items ≡ c.loop-node.yielded
    ++ (node ∷ rest) = is.whole ∙ ap (λ w. c.loop-node.yielded ++ w) c.in-Some.ensures.steps.0 in
    turn_drawn c.args.to.now.from c.args.to.now.first c.args.nodes.items c.loop-node.yielded node rest
    c.loop-node.refs.items
    (drawn c.args.to.now.mark.now.log) whole is.placed c.requires.order is.stamps c.requires.drawn

pub loop-node-preserved : goal.loop-node-preserved
loop-node-preserved g c =
    let is = c.loop-node.invariant in
    let done = c.place_next.ensures in
    let ok = c.in_ok-place_next.ensures in
    let rest = into_iter_items c.next.new.self in
    let node = c.in-Some.node in
    let refs = c.loop-node.refs.items in
    let first = g.S.Slots.view c.args.seat.now in
    let v = g.S.Slots.view c.loop-node.seat in
    let u = g.S.Slots.view c.place_next.new.seat in
    let whole : c.args.nodes.items ≡ c.loop-node.yielded
    ++ (node ∷ rest) = is.whole ∙ ap (λ w. c.loop-node.yielded ++ w) c.in-Some.ensures.steps.0 in
    let at = ok.placed.0 in
    let one = length-append c.loop-node.yielded (node ∷ []) in
    record {
      can = tt;
      finite = tt;
      whole = whole ∙ sym (append_assoc c.loop-node.yielded (node ∷ []) rest);
      home = done.home;
      taken = done.taken;
      within = λ r end below. let had = is.within r end below in done.within r end had.0 had.1;
      placed = omega (arith, ap length ok.placed.1, length-append refs (at ∷ []), is.placed, one);
      left = omega (arith, done.less, is.left, one);
      stamps = subst (AreFrom c.args.to.now.first) (sym ok.placed.1)
          (from_more c.args.to.now.first refs at is.stamps ok.placed.2);
      used = λ r. ok.used r first (is.used r);
      steps = λ r. steps_steps first v u (is.steps r) (done.steps r);
    }

pub returns-in_err-place_next-clause-steps : goal.returns-in_err-place_next-clause-steps
returns-in_err-place_next-clause-steps g c =
    let view = g.S.Slots.view in λ r. steps_steps (view c.args.seat.now) (view c.loop-node.seat)
    (view c.place_next.new.seat) (c.loop-node.invariant.steps r) (c.place_next.ensures.steps r)
