use Rattle.std.proofs.Common.{◌-◌, [], ◌∷◌, subst, arith, Some}
use Rattle.std.specs.Prelude.{slice_set}
use Rattle.commit_graph.specs.Inside.Reach.{FromLow, Joins, row_nodes}
use Rattle.commit_graph.proofs.Rowing.{placed}
use Rattle.commit_graph.proofs.near.Near.puts.Goals as goal

pub invariant_of-self : goal.invariant_of-self
invariant_of-self c =
    (placed c.self.inside.low c.self.inside.row.items (c.stamp_in-stamp.result - c.self.inside.low) c.args.found
    c.self.invariant (omega (arith, c.if-place-len.false, c.len.ensures, c.self.inside.row.ok.0))
    (omega (arith, c.if-stamp-self.false, c.stamp_in-stamp.ensures))).0

pub returns-clause-put : goal.returns-clause-put
returns-clause-put c is =
    subst (λ (w : FromLow). Joins w.nodes (c.args.found ∷ []) (row_nodes (slice_set c.self.inside.row.items
    (c.stamp_in-stamp.result - c.self.inside.low) (Some c.args.found)))) c.self.view_is
    (placed c.self.inside.low c.self.inside.row.items (c.stamp_in-stamp.result - c.self.inside.low) c.args.found
    c.self.invariant (omega (arith, c.if-place-len.false, c.len.ensures, c.self.inside.row.ok.0))
    (omega (arith, c.if-stamp-self.false, c.stamp_in-stamp.ensures))).1
