use Rattle.std.proofs.Common.{rules}
use Rattle.rebase.proofs.client.Client.query.Goals as goal

pub returns-clause-err : goal.returns-clause-err
returns-clause-err g c = search rules
