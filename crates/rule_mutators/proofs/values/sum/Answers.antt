use Rattle.std.proofs.Common.{rules}
use Rattle.rule_mutators.proofs.values.sum.Goals as goal

pub returns : goal.returns
returns c = search rules
