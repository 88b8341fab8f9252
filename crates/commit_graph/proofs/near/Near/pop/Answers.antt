use Rattle.std.proofs.Common.{◌≡◌, ap, sym, ◌∙◌, arith}
use Rattle.commit_graph.specs.Inside.Reach.{FromLow}
use Rattle.commit_graph.proofs.Chained.{none_from}
use Rattle.commit_graph.proofs.Rowing.{none_popped, some_popped, stamp_high}
use Rattle.commit_graph.proofs.near.Near.pop.Goals as goal

pub invariant_of-self : goal.invariant_of-self
invariant_of-self c =
    (some_popped c.loop-last.self-inside.low c.loop-last.self-inside.row.items c.pop.new.self.items c.in-Some.last
    c.in-Some-last.found c.loop-last.invariant.1 c.in-Some.ensures.items c.in-Some-last.is).0

pub returns-in-Some-last-clause-some : goal.returns-in-Some-last-clause-some
returns-in-Some-last-clause-some c =
    let r = some_popped c.loop-last.self-inside.low c.loop-last.self-inside.row.items c.pop.new.self.items
    c.in-Some.last
    c.in-Some-last.found c.loop-last.invariant.1 c.in-Some.ensures.items c.in-Some-last.is in
    ap (λ (w : FromLow). w.nodes) (sym c.self.view_is) ∙ (sym c.loop-last.invariant.2 ∙ r.1)

pub returns-in-Some-last-clause-above : goal.returns-in-Some-last-clause-above
returns-in-Some-last-clause-above c =
    let r = some_popped c.loop-last.self-inside.low c.loop-last.self-inside.row.items c.pop.new.self.items
    c.in-Some.last
    c.in-Some-last.found c.loop-last.invariant.1 c.in-Some.ensures.items c.in-Some-last.is in
    let low : c.self.inside.low ≡ c.args.self.now.low = ap (λ (w : FromLow). w.low) c.self.view_is in
    omega (arith, r.2, low, c.loop-last.invariant.0)

pub returns-in-Some-last-clause-greatest : goal.returns-in-Some-last-clause-greatest
returns-in-Some-last-clause-greatest c other h =
    let r = some_popped c.loop-last.self-inside.low c.loop-last.self-inside.row.items c.pop.new.self.items
    c.in-Some.last
    c.in-Some-last.found c.loop-last.invariant.1 c.in-Some.ensures.items c.in-Some-last.is in
    let high = stamp_high c.loop-last.self-inside.low c.pop.new.self.items r.0 other h in
    omega (arith, r.2, high)

pub loop-last-preserved : goal.loop-last-preserved
loop-last-preserved c =
    let r = none_popped c.loop-last.self-inside.low c.loop-last.self-inside.row.items c.pop.new.self.items
    c.in-Some.last
    c.loop-last.invariant.1 c.in-Some.ensures.items (none_from c.in-Some.last c.in_default-last.not-Some) in
    (c.loop-last.invariant.0, r.0, r.1 ∙ c.loop-last.invariant.2)
