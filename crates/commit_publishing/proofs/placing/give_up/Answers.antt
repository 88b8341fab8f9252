use Rattle.commit_publishing.proofs.Stepping.{steps_steps}
use Rattle.commit_publishing.proofs.placing.give_up.Goals as goal

pub returns-clause-steps : goal.returns-clause-steps
returns-clause-steps g c =
    let view = g.S.Slots.view in λ r. steps_steps (view c.args.seat.now) (view c.withdraw_all.new.seat)
    (view c.retire_all.new.seat) (c.withdraw_all.ensures.steps r) (c.retire_all.ensures.steps r)
