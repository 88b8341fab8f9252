use Rattle.std.proofs.Common.{rules}
use Rattle.rule_mutators.proofs.running.need.Goals as goal

pub returns-in-Some-false-clause-ran : goal.returns-in-Some-false-clause-ran
returns-in-Some-false-clause-ran g c = search rules
