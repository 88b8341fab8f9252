use Rattle.std.proofs.Common.{subst, ap}
use Rattle.reader_claims.specs.declared.view.View.{View}
use Rattle.reader_claims.specs.Seats.{Seated}
use Rattle.reader_claims.specs.Passes.{IsGiven, IsNotGiven}
use Rattle.reader_claims.proofs.claims.Claims.give.Goals as goal

pub returns-clause-given : goal.returns-clause-given
returns-clause-given c = λ is. subst (λ (v : View). IsGiven v c.try_give.new.reader.seat.me.0 c.args.slot)
    (ap (λ (s : Seated). s.view) c.seat.view_is)
    (subst (IsGiven c.seat.inside.reader.seat.me.0 c.try_give.new.reader.seat.me.0) c.number.ensures
    (c.try_give.ensures.given is))

pub returns-clause-not_given : goal.returns-clause-not_given
returns-clause-not_given c = λ no. subst (λ (v : View). IsNotGiven v c.try_give.new.reader.seat.me.0 c.args.slot)
    (ap (λ (s : Seated). s.view) c.seat.view_is)
    (subst (IsNotGiven c.seat.inside.reader.seat.me.0 c.try_give.new.reader.seat.me.0) c.number.ensures
    (c.try_give.ensures.not_given no))
