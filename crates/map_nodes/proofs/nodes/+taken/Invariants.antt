use Rattle.map_nodes.specs.Nodes.{child_height}
use Rattle.map_nodes.proofs.nodes.+taken.Given as goal

abbrev pub decreases-OwnNode::narrowed : goal.decreases-OwnNode::narrowed
decreases-OwnNode::narrowed l = l.self.height

abbrev pub decreases-removing::roots::taken : goal.decreases-removing::roots::taken
decreases-removing::roots::taken l = child_height l.kid
