use Rattle.std.proofs.Common.{◌≡◌, replicate}
use Rattle.map_nodes.proofs.nodes.putting.leaves.copies_of.Given as goal

abbrev pub invariant-loop-made : goal.invariant-loop-made
invariant-loop-made l = l.copies.items ≡ replicate l._made l.text
