use Rattle.std.proofs.Common.{length}
use Rattle.host_places.proofs.opening.close_places.Given as goal

abbrev pub decreases-loop-desk : goal.decreases-loop-desk
decreases-loop-desk g l = length l.desks.items
