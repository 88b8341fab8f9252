use Rattle.std.proofs.Common.{rules}
use Rattle.rebase.proofs.client.learn_on.Goals as goal

pub returns-clause-other : goal.returns-clause-other
returns-clause-other g c = search rules
