use Rattle.std.proofs.Common.{◌≡◌, take, map}
use Rattle.map_nodes.specs.declared.nodes.OwnChild.TheVariants.{Placed}
use Rattle.map_nodes.proofs.nodes.copies.placed_children.Given as goal

abbrev pub invariant-loop-at : goal.invariant-loop-at
invariant-loop-at l = l.copy.items ≡ map (λ at. Placed at) (take l.at-index l.children)
