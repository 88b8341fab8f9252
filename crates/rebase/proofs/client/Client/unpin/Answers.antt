use Rattle.std.proofs.Common.{rules}
use Rattle.rebase.proofs.client.Client.unpin.Goals as goal

pub returns-clause-stays : goal.returns-clause-stays
returns-clause-stays g c = search rules
