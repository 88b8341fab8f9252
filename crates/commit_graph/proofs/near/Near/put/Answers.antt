use Rattle.std.proofs.Common.{◌≡◌, ◌-◌, [], ◌∷◌, ap, subst, ◌∙◌, arith, Some}
use Rattle.std.specs.Prelude.{slice_set}
use Rattle.commit_graph.specs.Inside.Reach.{FromLow, Joins, row_nodes}
use Rattle.commit_graph.proofs.Rowing.{placed, pushed, resized}
use Rattle.commit_graph.proofs.near.Near.put.Goals as goal

pub invariant_of-self : goal.invariant_of-self
invariant_of-self c =
    let low : c.self.inside.low ≡ c.args.self.now.low = ap (λ (w : FromLow). w.low) c.self.view_is in
    (placed c.self.inside.low c.self.inside.row.items (c.stamp_in.result - c.self.inside.low) c.args.found
    c.self.invariant (omega (arith, c.if-place-len.true, c.len.ensures, c.self.inside.row.ok.0))
    (omega (arith, c.requires, c.stamp_in.ensures, low))).0

pub returns-then-place-len-clause-joins : goal.returns-then-place-len-clause-joins
returns-then-place-len-clause-joins c =
    let low : c.self.inside.low ≡ c.args.self.now.low = ap (λ (w : FromLow). w.low) c.self.view_is in
    subst (λ (w : FromLow). Joins w.nodes (c.args.found ∷ []) (row_nodes (slice_set c.self.inside.row.items
    (c.stamp_in.result - c.self.inside.low) (Some c.args.found)))) c.self.view_is
    (placed c.self.inside.low c.self.inside.row.items (c.stamp_in.result - c.self.inside.low) c.args.found
    c.self.invariant (omega (arith, c.if-place-len.true, c.len.ensures, c.self.inside.row.ok.0))
    (omega (arith, c.requires, c.stamp_in.ensures, low))).1

pub invariant_of-self-in_err-push : goal.invariant_of-self-in_err-push
invariant_of-self-in_err-push c =
    let r = resized c.self.inside.low c.self.inside.row.items c.push.new.self.items
    (c.stamp_in.result - c.self.inside.low) _
    (omega (arith, c.if-place-len.false, c.len.ensures, c.self.inside.row.ok.0))
    (c.in_err-push.ensures.items ∙ c.in_ok-resize.ensures.items) c.self.invariant in r.0

pub invariant_of-self-2 : goal.invariant_of-self-2
invariant_of-self-2 c =
    let low : c.self.inside.low ≡ c.args.self.now.low = ap (λ (w : FromLow). w.low) c.self.view_is in
    (pushed c.self.inside.low c.self.inside.row.items c.resize.new.self.items c.push.new.self.items c.args.found
    (resized c.self.inside.low c.self.inside.row.items c.resize.new.self.items (c.stamp_in.result - c.self.inside.low) _
    (omega (arith, c.if-place-len.false, c.len.ensures, c.self.inside.row.ok.0)) c.in_ok-resize.ensures.items
    c.self.invariant) c.in_ok-push.ensures.items
    (omega (arith, c.requires, c.stamp_in.ensures, low, c.in_ok-resize.ensures.len, c.resize.new.self.ok.0))).0

pub returns-clause-joins : goal.returns-clause-joins
returns-clause-joins c =
    let low : c.self.inside.low ≡ c.args.self.now.low = ap (λ (w : FromLow). w.low) c.self.view_is in
    subst (λ (w : FromLow). Joins w.nodes (c.args.found ∷ []) (row_nodes c.push.new.self.items)) c.self.view_is
    (pushed c.self.inside.low c.self.inside.row.items c.resize.new.self.items c.push.new.self.items c.args.found
    (resized c.self.inside.low c.self.inside.row.items c.resize.new.self.items (c.stamp_in.result - c.self.inside.low) _
    (omega (arith, c.if-place-len.false, c.len.ensures, c.self.inside.row.ok.0)) c.in_ok-resize.ensures.items
    c.self.invariant) c.in_ok-push.ensures.items
    (omega (arith, c.requires, c.stamp_in.ensures, low, c.in_ok-resize.ensures.len, c.resize.new.self.ok.0))).1
