use Rattle.std.proofs.Common.{rules}
use Rattle.script_runner.proofs.process.program.Goals as goal

-- the status of a failed read is not that of a fault
pub returns-in-Err-clause-faulty : goal.returns-in-Err-clause-faulty
returns-in-Err-clause-faulty g c is = absurd (cc is)

pub returns-in-Ok-clause-written : goal.returns-in-Ok-clause-written
returns-in-Ok-clause-written g c = search rules
