use Rattle.std.proofs.Common.{◌+◌, ◌*◌}
use Rattle.map_nodes.proofs.nodes.+removing.Given as goal

abbrev pub decreases-OwnNode::remove : goal.decreases-OwnNode::remove
decreases-OwnNode::remove g l = 3 * l.self.now.depth + 2

abbrev pub decreases-removing::paths::remove_at : goal.decreases-removing::paths::remove_at
decreases-removing::paths::remove_at g l = 3 * l.depth + 1

abbrev pub decreases-removing::paths::remove_child : goal.decreases-removing::paths::remove_child
decreases-removing::paths::remove_child g l = 3 * l.below + 3
