use Rattle.rebase.specs.Clients.{AreSeatsOf}
use Rattle.test_group.proofs.opening.players_of.Given as goal

abbrev pub invariant-loop-id : goal.invariant-loop-id
invariant-loop-id g l = AreSeatsOf l.group.group l.seats.free
