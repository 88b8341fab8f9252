use Rattle.std.proofs.Common.{rules}
use Rattle.commit_publishing.proofs.exchange.publish_draft.Goals as goal

pub returns-in-Ok-clause-freed : goal.returns-in-Ok-clause-freed
returns-in-Ok-clause-freed g c = search rules

pub returns-in-Err-clause-freed : goal.returns-in-Err-clause-freed
returns-in-Err-clause-freed g c = search rules
