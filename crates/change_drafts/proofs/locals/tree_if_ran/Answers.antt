use Rattle.std.proofs.Common.{subst}
use Rattle.change_drafts.specs.Running.{MayRun}
use Rattle.change_drafts.specs.declared.runs.OwnRun.{OwnRun}
use Rattle.change_drafts.proofs.locals.tree_if_ran.Goals as goal

pub returns-in-Ok : goal.returns-in-Ok
returns-in-Ok c contents has meaning m may =
    let run = subst (λ (w : OwnRun). MayRun contents has meaning m w) c.in-Ran.is may in
    c.in-Ok.ensures.ok contents meaning run.1
