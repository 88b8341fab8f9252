use Rattle.map_nodes.specs.Nodes.{child_height}
use Rattle.map_nodes.proofs.nodes.+second.Given as goal

abbrev pub decreases-OwnNode::second : goal.decreases-OwnNode::second
decreases-OwnNode::second g l = l.self.now.height

abbrev pub decreases-removing::fates::kid_second : goal.decreases-removing::fates::kid_second
decreases-removing::fates::kid_second g l = child_height l.kid.now
