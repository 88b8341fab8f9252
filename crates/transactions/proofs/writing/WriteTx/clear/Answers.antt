use Rattle.std.proofs.Common.{rules}
use Rattle.transactions.proofs.writing.WriteTx.clear.Goals as goal

pub returns-clause-wide : goal.returns-clause-wide
returns-clause-wide g c = c.clear.ensures.wide (g.C.Chunks.contents c.args.self.now.chunks)

pub invariant_of-self : goal.invariant_of-self
invariant_of-self g c = record { spells = search rules; placed = search rules }
