use Rattle.std.proofs.Common.{rules}
use Rattle.rule_mutators.proofs.reading.parts.fault_at.Goals as goal

pub returns-in-Ok : goal.returns-in-Ok
returns-in-Ok c = search rules
