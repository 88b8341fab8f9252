use Rattle.std.proofs.Common.{length}
use Rattle.std.specs.Arc.{arc_value}
use Rattle.host_places.proofs.Opened.{Filled}
use Rattle.host_places.proofs.opening.fill_desks.Given as goal

abbrev pub invariant-loop-seat : goal.invariant-loop-seat
invariant-loop-seat g l = Filled (arc_value l.group) l.fn.seats.free l.seats.free l.desks.items

abbrev pub decreases-loop-seat : goal.decreases-loop-seat
decreases-loop-seat g l = length l.seats.free
