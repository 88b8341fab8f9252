use Rattle.std.proofs.Common.{length}
use Rattle.map_nodes.proofs.nodes.trails.reading.+spot.Given as goal

abbrev pub decreases-spot : goal.decreases-spot
decreases-spot l = length l.steps.now
