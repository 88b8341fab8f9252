use Rattle.reader_claims.specs.Machine as machine
use Rattle.chunk_slots.proofs.arena.ArenaSlots.retire.Goals as goal

pub returns-else-slot-count-clause-moves : goal.returns-else-slot-count-clause-moves
returns-else-slot-count-clause-moves g c = λ _. machine.still _
