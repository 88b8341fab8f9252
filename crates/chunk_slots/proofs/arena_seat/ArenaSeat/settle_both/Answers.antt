use Rattle.std.proofs.Common.{rules}
use Rattle.chunk_slots.proofs.arena_seat.ArenaSeat.settle_both.Goals as goal

pub returns-clause-taken : goal.returns-clause-taken
returns-clause-taken c = search rules
