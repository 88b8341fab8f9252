use Rattle.std.proofs.Common.{rules}
use Rattle.push_body.proofs.pull.pull_bytes.Goals as goal

pub returns-clause-text : goal.returns-clause-text
returns-clause-text c = search rules
