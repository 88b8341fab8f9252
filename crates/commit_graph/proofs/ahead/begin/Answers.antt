use Rattle.std.proofs.Common.{◌<◌, sym, subst}
use Rattle.commit_graph.specs.Inside.Reach.{FromLow, stamp_in}
use Rattle.commit_graph.proofs.Findings.{keyed_at}
use Rattle.commit_graph.proofs.ahead.begin.Goals as goal

pub returns-then-is_above-clause-under : goal.returns-then-is_above-clause-under
returns-then-is_above-clause-under c f h =
    subst (λ (w : FromLow). stamp_in f < w.low) (sym c.begin.ensures)
    (c.is_above.ensures c.if-is_above.true (stamp_in f) (keyed_at c.args.tree.now.entries f c.requires.keyed h))

pub returns-then-is_above-2-clause-under : goal.returns-then-is_above-2-clause-under
returns-then-is_above-2-clause-under c f h =
    subst (λ (w : FromLow). stamp_in f < w.low) (sym c.begin-then-is_above-2.ensures)
    (c.is_above-else-is_above.ensures c.if-is_above-2.true (stamp_in f)
    (keyed_at c.args.tree.now.entries f c.requires.keyed h))
