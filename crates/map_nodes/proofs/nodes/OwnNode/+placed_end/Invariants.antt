use Rattle.map_nodes.proofs.nodes.OwnNode.+placed_end.Given as goal

abbrev pub decreases-placed_end : goal.decreases-placed_end
decreases-placed_end l = l.self.now.height
