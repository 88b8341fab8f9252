use Rattle.std.proofs.Common.{rules}
use Rattle.rule_mutators.proofs.evaluating.+value.Goals as goal

pub or_at-returns-then-is_null-clause-value : goal.or_at-returns-then-is_null-clause-value
or_at-returns-then-is_null-clause-value g t c = search rules
