use Rattle.std.proofs.Common.{◌+◌, ◌*◌}
use Rattle.map_nodes.proofs.nodes.+put.Given as goal

abbrev pub decreases-OwnNode::put : goal.decreases-OwnNode::put
decreases-OwnNode::put g l = 4 * l.self.now.depth + 1

abbrev pub decreases-putting::paths::put_inner : goal.decreases-putting::paths::put_inner
decreases-putting::paths::put_inner g l = 4 * l.here.depth

abbrev pub decreases-putting::paths::put_child : goal.decreases-putting::paths::put_child
decreases-putting::paths::put_child g l = 4 * l.here.depth + 3

abbrev pub decreases-OwnNode::put_below : goal.decreases-OwnNode::put_below
decreases-OwnNode::put_below g l = 4 * l.self.now.depth + 2
