use Rattle.std.proofs.Common.{ap}
use Rattle.commit_graph.proofs.Rowing.{fresh}
use Rattle.commit_graph.proofs.near.Near.new.Goals as goal

pub invariant_of-result : goal.invariant_of-result
invariant_of-result c =
    (fresh c.args.low c.new-row.result.items c.resize.new.self.items c.args.places _ c.new-row.ensures.items
    c.in_ok-resize.ensures.items).0

pub returns : goal.returns
returns c =
    ap (λ w. record { low = c.args.low; nodes = w })
    (fresh c.args.low c.new-row.result.items c.resize.new.self.items c.args.places _ c.new-row.ensures.items
    c.in_ok-resize.ensures.items).1
