use Rattle.std.proofs.Common.{rules}
use Rattle.group_history.proofs.steps.is_saying_nothing.Goals as goal

pub returns-then-is_empty : goal.returns-then-is_empty
returns-then-is_empty c = search rules
