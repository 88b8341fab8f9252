use Rattle.std.proofs.Common.{sym, subst}
use Rattle.group_history.specs.Spelling.{Contents, version_of}
use Rattle.commit_graph.specs.Chains.{IsBaseOf}
use Rattle.change_drafts.specs.Chaining.{HasTip}
use Rattle.change_tries.specs.Places.{state_at}
use Rattle.change_tries.proofs.requests.begin_pull.Goals as goal

pub base_at-requires-clause-tip : goal.base_at-requires-clause-tip
base_at-requires-clause-tip g c =
    let v = version_of g.M.Means.means (state_at c.args.at.now) in
    (v, subst (λ (w : Contents). HasTip w c.args.spot.tip v) (sym c.nodes.ensures.nodes) c.requires.spot.stands)

pub begin_outcome-requires-clause-before : goal.begin_outcome-requires-clause-before
begin_outcome-requires-clause-before g c κs within =
    let s = state_at c.args.at.now in let v = version_of g.M.Means.means s in
    subst (λ (w : Contents). IsBaseOf w s c.in_ok-before.before) c.nodes.ensures.nodes (c.in_ok-before.ensures.base v
    (subst (λ (w : Contents). HasTip w c.args.spot.tip v) (sym c.nodes.ensures.nodes) c.requires.spot.stands))
