use Rattle.map_nodes.proofs.nodes.OwnNode.+has.Given as goal

abbrev pub decreases-has : goal.decreases-has
decreases-has g l = l.self.now.depth
