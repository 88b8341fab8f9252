use Rattle.std.proofs.Common.{arith}
use Rattle.commit_publishing.proofs.Stepping.{no_step, steps_keeping, steps_steps}
use Rattle.commit_publishing.proofs.retiring.retire_all.Goals as goal

pub returns-then-is_empty-clause-steps : goal.returns-then-is_empty-clause-steps
returns-then-is_empty-clause-steps g c = λ r. no_step (g.S.Slots.view c.args.seat.now)

pub returns-in-Some-clause-steps : goal.returns-in-Some-clause-steps
returns-in-Some-clause-steps g c = λ r.
    let v = g.S.Slots.view c.args.seat.now in
    let w = g.S.Slots.view c.raise.new.seat in
    let kept = c.raise.ensures.kept r in
    let more = kept.epoch_loads in
    steps_steps v w (g.S.Slots.view c.retire_at.new.seat)
    (steps_keeping v w (omega arith) kept.reached kept.pin) (c.retire_at.ensures.steps r)
