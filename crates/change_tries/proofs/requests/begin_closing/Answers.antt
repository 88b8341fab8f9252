use Rattle.std.proofs.Common.{subst}
use Rattle.group_history.specs.declared.changes.Change.TheVariants.{Closed}
use Rattle.head_word.specs.Books.{drawn}
use Rattle.change_tries.specs.Places.{state_at}
use Rattle.change_tries.specs.Proposing.{MayPropose}
use Rattle.change_tries.proofs.requests.begin_closing.Goals as goal

pub returns-in-Ok-Some-clause-step : goal.returns-in-Ok-Some-clause-step
returns-in-Ok-Some-clause-step g c last =
    let p = c.args.at.now in
    subst (MayPropose g.M.Means.means (drawn p.mark.log) p.commit (state_at p) last Closed) c.in-Ok-Some.field-0-is
    (c.in-Ok-Some.ensures.proposed last)

pub returns-in-Ok-None-clause-step : goal.returns-in-Ok-None-clause-step
returns-in-Ok-None-clause-step g c last =
    let p = c.args.at.now in
    subst (MayPropose g.M.Means.means (drawn p.mark.log) p.commit (state_at p) last Closed) c.in-Ok-None.field-0-is
    (c.in-Ok-None.ensures.proposed last)
