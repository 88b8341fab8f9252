use Rattle.rebase.specs.Clients.{AreSeatsOf}
use Rattle.trials.proofs.group.players_of.Given as goal

abbrev pub invariant-loop-line : goal.invariant-loop-line
invariant-loop-line g l = AreSeatsOf l.group.group l.seats.free
