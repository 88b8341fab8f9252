use Rattle.std.proofs.Common.{ap, subst, rules}
use Rattle.reader_claims.specs.declared.view.View.{View}
use Rattle.chunk_slots.specs.Seats.{IsPinned}
use Rattle.commit_graph.specs.Seats.{IsCalm, SeatState}
use Rattle.change_tries.proofs.Pinning.{calm_overtaken, calm_pinned}
use Rattle.change_tries.proofs.steps.pin_and_load.Goals as goal

pub returns-clause-pinned : goal.returns-clause-pinned
returns-clause-pinned g c r =
    subst (λ (v : View). IsPinned v (g.S.Slots.view c.pin.new.seat) c.args.tries)
    (ap (λ (s : SeatState). s.view) c.seat.view_is) (c.in_ok-pin.ensures.pin r)

pub returns-clause-looked : goal.returns-clause-looked
returns-clause-looked g c =
    let v = g.S.Slots.view c.seat.inside.slots in let u = g.S.Slots.view c.pin.new.seat in
    let calm : g.S.Slots.reused → IsCalm c.args.seat.now.view u = λ r. subst (λ (w : View). IsCalm w u)
    (ap (λ (s : SeatState). s.view) c.seat.view_is) (calm_pinned v u c.args.tries (c.in_ok-pin.ensures.pin r)) in
    search rules

pub returns-in_err-pin-clause-looked : goal.returns-in_err-pin-clause-looked
returns-in_err-pin-clause-looked g c =
    let v = g.S.Slots.view c.seat.inside.slots in let u = g.S.Slots.view c.pin.new.seat in
    let calm : g.S.Slots.reused → IsCalm c.args.seat.now.view u = λ r. subst (λ (w : View). IsCalm w u)
    (ap (λ (s : SeatState). s.view) c.seat.view_is) (calm_overtaken v u c.args.tries (c.in_err-pin.ensures.pin r)) in
    search rules
