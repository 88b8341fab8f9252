use Rattle.std.proofs.Common.{rules}
use Rattle.script_mutators.proofs.mutators.reason_text.Goals as goal

pub returns-in-Rebase : goal.returns-in-Rebase
returns-in-Rebase c = search rules
