use Rattle.std.proofs.Common.{◌≡◌}
use Rattle.chunk_slots.proofs.append.put.Given as goal

abbrev pub invariant-loop : goal.invariant-loop
invariant-loop g l = l.placed ≡ l.fn.placed
