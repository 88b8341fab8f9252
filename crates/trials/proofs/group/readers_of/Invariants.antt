use Rattle.rebase.specs.Clients.{AreSeatsOf}
use Rattle.trials.proofs.group.readers_of.Given as goal

abbrev pub invariant-loop : goal.invariant-loop
invariant-loop g l = AreSeatsOf l.group.group l.seats.free
