use Rattle.commit_publishing.proofs.Stepping.{steps_steps}
use Rattle.commit_publishing.proofs.placing.place_drawn.Goals as goal

pub returns-in-Err-clause-steps : goal.returns-in-Err-clause-steps
returns-in-Err-clause-steps g c =
    let view = g.S.Slots.view in λ r. steps_steps (view c.args.seat.now) (view c.place_all.new.seat)
    (view c.give_up.new.seat) (c.place_all.ensures.steps r) (c.give_up.ensures.steps r)
