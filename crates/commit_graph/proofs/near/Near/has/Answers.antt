use Rattle.std.proofs.Common.{◌-◌, get_or, ap, subst, ◌∙◌, arith}
use Rattle.std.specs.Prelude.{IsTrue}
use Rattle.std.specs.Option.{is_some}
use Rattle.commit_graph.specs.Inside.Reach.{FromLow, HasStampIn}
use Rattle.commit_graph.proofs.Rowing.{stands_at}
use Rattle.commit_graph.proofs.near.Near.has.Goals as goal

pub returns-then-place-len : goal.returns-then-place-len
returns-then-place-len c is =
    let xs = c.self.inside.row.items in let i = c.args.stamp - c.self.inside.low in
    let some : IsTrue (is_some (get_or xs i c.index.result.now)) =
    subst IsTrue (c.is_some.ensures ∙ ap is_some c.index.ensures) is in
    let here = stands_at c.self.inside.low xs i c.index.result.now c.self.invariant
    (omega (arith, c.if-place-len.true, c.len.ensures, c.self.inside.row.ok.0)) some in
    subst (λ (w : FromLow). HasStampIn w.nodes c.args.stamp) c.self.view_is
    (here.0, here.1, omega (arith, here.2, c.if-stamp-self.false))
