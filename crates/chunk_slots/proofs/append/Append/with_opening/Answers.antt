use Rattle.std.proofs.Common.{rules}
use Rattle.chunk_slots.proofs.append.Append.with_opening.Goals as goal

pub put_opening-requires-clause-tag : goal.put_opening-requires-clause-tag
put_opening-requires-clause-tag g c = search rules

pub invariant_of-result : goal.invariant_of-result
invariant_of-result g c = search rules
