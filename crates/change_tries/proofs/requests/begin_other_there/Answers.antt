use Rattle.std.proofs.Common.{sym, subst}
use Rattle.std.specs.Prelude.{IfOk, IfErr}
use Rattle.group_history.specs.declared.changes.Change.{Change}
use Rattle.head_word.specs.Books.{drawn}
use Rattle.linearized.specs.Trying.{IsUnproposed}
use Rattle.change_tries.specs.Missing.{IsStop}
use Rattle.change_tries.specs.Places.{state_at}
use Rattle.change_tries.specs.Proposing.{asked_reply, change_asked}
use Rattle.change_tries.specs.Runs.{MayStep}
use Rattle.change_tries.proofs.requests.begin_other_there.Goals as goal

pub returns-in-Pulled-clause-step : goal.returns-in-Pulled-clause-step
returns-in-Pulled-clause-step g c last =
    let p = c.args.at.now in
    subst (λ (w : Change). IfOk c.begin_pull.result
    (MayStep g.M.Has.has g.M.Means.means (drawn p.mark.log) p.commit (state_at p) last w)) (sym c.in-Pulled.is)
    (c.begin_pull.ensures.step last)

pub returns-in-Pulled-clause-err : goal.returns-in-Pulled-clause-err
returns-in-Pulled-clause-err g c last =
    subst (λ (w : Change). IfErr c.begin_pull.result
    (IsUnproposed (IsStop g.S.Slots.reused) (change_asked w)
    (asked_reply g.M.Means.means (state_at c.args.at.now) last w))) (sym c.in-Pulled.is)
    (c.begin_pull.ensures.err last)

pub returns-in-Closed-clause-step : goal.returns-in-Closed-clause-step
returns-in-Closed-clause-step g c last =
    let p = c.args.at.now in
    subst (λ (w : Change). IfOk c.begin_closing.result
    (MayStep g.M.Has.has g.M.Means.means (drawn p.mark.log) p.commit (state_at p) last w)) (sym c.in-Closed.is)
    (c.begin_closing.ensures.step last)

pub returns-in-Closed-clause-err : goal.returns-in-Closed-clause-err
returns-in-Closed-clause-err g c last =
    subst (λ (w : Change). IfErr c.begin_closing.result
    (IsUnproposed (IsStop g.S.Slots.reused) (change_asked w)
    (asked_reply g.M.Means.means (state_at c.args.at.now) last w))) (sym c.in-Closed.is)
    (c.begin_closing.ensures.err last)
