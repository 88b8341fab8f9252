use Rattle.std.proofs.Common.{rules}
use Rattle.script_mutators.specs.Mutators.{followed}
use Rattle.script_mutators.specs.Inside.Mutators as inside
use Rattle.script_mutators.proofs.mutators.followed.Goals as goal

pub returns-clause-ok : goal.returns-clause-ok
unfolding followed inside.put_followed
returns-clause-ok c = search rules
