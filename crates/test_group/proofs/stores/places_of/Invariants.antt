use Rattle.test_group.specs.Trials.{AreFreeSeatsOf}
use Rattle.test_group.proofs.stores.places_of.Given as goal

abbrev pub invariant-loop : goal.invariant-loop
invariant-loop g l = AreFreeSeatsOf g.S.Slots.reused l.shared l.seats.items
