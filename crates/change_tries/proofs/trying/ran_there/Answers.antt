use Rattle.std.proofs.Common.{subst}
use Rattle.std.specs.Prelude.{IfOk}
use Rattle.head_word.specs.Books.{drawn}
use Rattle.change_tries.specs.Places.{HeadPlace}
use Rattle.change_tries.specs.Runs.{IsBehind}
use Rattle.change_tries.proofs.Since.{goes_behind}
use Rattle.change_tries.proofs.trying.ran_there.Goals as goal

pub returns-clause-behind : goal.returns-clause-behind
returns-clause-behind g c =
    let ended = c.args.ended in
    goes_behind g.M.Has.has g.M.Means.means (drawn c.args.seat.now.mark.log) ended.run ended.ran c.end_run-step.result
    c.step_on.result
    c.step_on.ensures.passed (subst (λ (q : HeadPlace). IfOk c.end_run-step.result
    (IsBehind g.M.Has.has g.M.Means.means (drawn q.mark.log) ended.run ended.ran)) c.new-at.ensures.place
    c.end_run-step.ensures.behind)
