use Rattle.host_places.proofs.Opened.{none_filled, one_more}
use Rattle.host_places.proofs.opening.fill_desks.Goals as goal

pub loop-seat-init : goal.loop-seat-init
loop-seat-init g c = none_filled _ _ _ c.requires.home c.requires.none

pub loop-seat-preserved : goal.loop-seat-preserved
loop-seat-preserved g c =
    let added = c.in_ok-add_desk.ensures in
    one_more _ _ _ _ c.in-Ok.seat added.0 _ _ c.in-Ok.ensures.taken added.1 added.2 c.loop-seat.invariant

pub returns-clause-new : goal.returns-clause-new
returns-clause-new g c = λ commit all. (c.loop-seat.invariant.new commit all).1
