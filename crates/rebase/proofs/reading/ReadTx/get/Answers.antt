use Rattle.std.proofs.Common.{rules}
use Rattle.rebase.proofs.reading.ReadTx.get.Goals as goal

pub returns-clause-value : goal.returns-clause-value
returns-clause-value g c = search rules
