use Rattle.change_tries.proofs.Since.{passed_none}
use Rattle.change_tries.proofs.trying.step_on.Goals as goal

pub returns-in-Ok-Move-clause-passed : goal.returns-in-Ok-Move-clause-passed
returns-in-Ok-Move-clause-passed g c = passed_none c.args.step c.end_try.result c.end_try.ensures.none

pub returns-in-Ok-Same-clause-passed : goal.returns-in-Ok-Same-clause-passed
returns-in-Ok-Same-clause-passed g c = passed_none c.args.step c.end_try-in-Ok-Same.result
    c.end_try-in-Ok-Same.ensures.none

pub returns-in-Err-clause-passed : goal.returns-in-Err-clause-passed
returns-in-Err-clause-passed g c = passed_none c.args.step c.end_try-in-Err.result c.end_try-in-Err.ensures.none
