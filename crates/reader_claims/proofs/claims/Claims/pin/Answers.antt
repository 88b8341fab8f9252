use Rattle.std.proofs.Common.{subst, ap, rules}
use Rattle.reader_claims.specs.declared.view.View.{View}
use Rattle.reader_claims.specs.Machine.{Moves}
use Rattle.reader_claims.specs.Seats.{Seated}
use Rattle.reader_claims.proofs.Moving.{then_move}
use Rattle.reader_claims.proofs.claims.Claims.pin.Goals as goal

pub returns-clause-moves : goal.returns-clause-moves
returns-clause-moves c = let v : View = c.args.seat.now.view in
    let a : View = c.look_twice-first.new.reader.seat.me.0 in let w : View = c.clear_pin.new.reader.seat.me.0 in
    then_move v a w _ _ _ (subst (λ (u : View). Moves u a)
    (ap (λ (s : Seated). s.view) c.seat.view_is) c.look_twice-first.ensures.moves) c.clear_pin.ensures.step.1

pub returns-then-first-second-clause-held : goal.returns-then-first-second-clause-held
returns-then-first-second-clause-held c = search rules
