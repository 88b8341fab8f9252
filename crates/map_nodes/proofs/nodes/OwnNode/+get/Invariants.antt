use Rattle.map_nodes.proofs.nodes.OwnNode.+get.Given as goal

abbrev pub decreases-get : goal.decreases-get
decreases-get g l = l.self.now.depth
