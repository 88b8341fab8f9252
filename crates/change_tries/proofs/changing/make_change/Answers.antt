use Rattle.change_tries.proofs.Since.{since_self}
use Rattle.change_tries.proofs.changing.make_change.Goals as goal

pub returns-clause-answer : goal.returns-clause-answer
returns-clause-answer g c = (c.in-Ended.ensures.told c.args.seat.now
    (since_self g.S.Slots.reused c.args.change.now c.args.seat.now)).answer

pub returns-clause-cause : goal.returns-clause-cause
returns-clause-cause g c = (c.in-Ended.ensures.told c.args.seat.now
    (since_self g.S.Slots.reused c.args.change.now c.args.seat.now)).cause

pub returns-clause-frees : goal.returns-clause-frees
returns-clause-frees g c r = (c.in-Ended.ensures.told c.args.seat.now
    (since_self g.S.Slots.reused c.args.change.now c.args.seat.now)).frees r
