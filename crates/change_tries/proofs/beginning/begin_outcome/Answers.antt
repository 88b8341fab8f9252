use Rattle.std.proofs.Common.{Ok, refl, sym, ap, ◌∙◌}
use Rattle.group_history.specs.declared.changes.Change.TheVariants.{Pulled}
use Rattle.group_history.specs.declared.responses.Ended.{Ended}
use Rattle.change_tries.specs.Places.{state_at}
use Rattle.change_tries.proofs.Judging.{judged_so}
use Rattle.change_tries.proofs.beginning.begin_outcome.Goals as goal

pub returns-in-Ok-Applied-clause-step : goal.returns-in-Ok-Applied-clause-step
returns-in-Ok-Applied-clause-step g c last =
    let s = state_at c.args.at.now in let base = c.requires.before in
    c.begin_rebase.ensures.step last c.args.ticket.now
    (sym (c.in-Ok-Applied.ensures.reply s (sym base.0) (sym base.1))
    ∙ ap (λ (w : Ended). Ok w) c.in-Ok-Applied.field-0-is)

pub returns-in-Ok-Applied-clause-first : goal.returns-in-Ok-Applied-clause-first
returns-in-Ok-Applied-clause-first g c = c.begin_rebase.ensures.first c.args.ticket.now

pub returns-in-Err-clause-err : goal.returns-in-Err-clause-err
returns-in-Err-clause-err g c last =
    let means = g.M.Means.means in let t = c.args.ticket.now in let r = c.args.pull.now in
    let s = state_at c.args.at.now in let base = c.requires.before in
    judged_so g.S.Slots.reused means s last t.text (Pulled t r) r c.in-Err.e c.requires.spot.opened
    (c.in-Err.ensures.reply s (sym base.0) (sym base.1)) refl
