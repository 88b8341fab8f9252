use Rattle.std.proofs.Common.{rules}
use Rattle.script_mutators.specs.Mutators.{sum_of}
use Rattle.script_mutators.proofs.mutators.sum_of.Goals as goal

pub returns : goal.returns
unfolding sum_of
returns c = search rules
