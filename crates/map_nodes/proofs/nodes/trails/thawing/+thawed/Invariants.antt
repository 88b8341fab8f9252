use Rattle.std.proofs.Common.{length}
use Rattle.map_nodes.proofs.nodes.trails.thawing.+thawed.Given as goal

abbrev pub decreases-thawed : goal.decreases-thawed
decreases-thawed l = length l.steps.now
