use Rattle.std.proofs.Common.{List, subst}
use Rattle.std.specs.Result.{IfOk}
use Rattle.group_history.specs.declared.refs.Ref.{Ref}
use Rattle.commit_graph.specs.Inside.Reach.{Omits}
use Rattle.commit_graph.proofs.merging.without.Goals as goal

pub returns-then-is_above-clause-exact : goal.returns-then-is_above-clause-exact
returns-then-is_above-clause-exact c =
    subst (λ (w : List Ref). Omits w c.args.kept.now w) c.deref.ensures.value (c.is_above.ensures c.if-is_above.true)

pub returns-clause-exact : goal.returns-clause-exact
returns-clause-exact c =
    subst (λ (w : List Ref). IfOk c.among.result (λ left. Omits w c.args.kept.now left.items)) c.deref-2.ensures.value
    c.among.ensures.exact
