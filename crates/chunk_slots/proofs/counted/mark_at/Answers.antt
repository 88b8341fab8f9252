use Rattle.std.proofs.Common.{rules}
use Rattle.chunk_slots.proofs.counted.mark_at.Goals as goal

pub returns-in-Some : goal.returns-in-Some
returns-in-Some g c = search rules
