use Rattle.std.proofs.Common.{◌≡◌, ◌+◌, ◌-◌, ◌^◌, min, take}
use Rattle.map_nodes.specs.Nodes.{kids_fresh, child_height, kids_height}
use Rattle.map_nodes.proofs.nodes.+counting.Given as goal

abbrev pub decreases-OwnNode::new_chunks : goal.decreases-OwnNode::new_chunks
decreases-OwnNode::new_chunks l = l.self.now.height

abbrev pub decreases-counting::new_of_kids : goal.decreases-counting::new_of_kids
decreases-counting::new_of_kids l = kids_height l.kids.now + 1

abbrev pub decreases-counting::new_of_kid : goal.decreases-counting::new_of_kid
decreases-counting::new_of_kid l = child_height l.kid.now

abbrev pub invariant-counting::new_of_kids-loop-kid : goal.invariant-counting::new_of_kids-loop-kid
invariant-counting::new_of_kids-loop-kid l = l.count ≡ min (kids_fresh (take l.kid-index l.kids)) (2 ^ 64 - 1)
