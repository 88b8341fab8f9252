use Rattle.std.proofs.Common.{arith}
use Rattle.chunk_slots.proofs.counted.put.Goals as goal

pub turn-found-requires : goal.turn-found-requires
turn-found-requires g c = (omega arith, omega arith, λ _ _. omega arith, λ lt. absurd (omega arith))
