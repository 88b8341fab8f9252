use Rattle.std.proofs.Common.{◌≡◌, ◌≤◌, ◌+◌, length, ◌++◌, reverse, vec_capacity}
use Rattle.map_chunks.proofs.keys.move_tail.Given as goal

abbrev pub invariant-loop-left : goal.invariant-loop-left
invariant-loop-left g l = (l.left.items ++ reverse l.right.items ≡ l.initial.left.items)
    × (length l.left.items + length l.right.items ≤ vec_capacity l.right + 8) × (8 ≤ length l.left.items)

abbrev pub decreases-loop-left : goal.decreases-loop-left
decreases-loop-left g l = length l.left.items
