use Rattle.std.proofs.Common.{arith}
use Rattle.std.proofs.lemmas.Grind.{common_steps}
use Rattle.script_mutators.specs.Mutators.{text_and_value}
use Rattle.script_mutators.proofs.arguments.text_and_other.Goals as goal

pub returns : goal.returns
unfolding text_and_value
returns c = grind (arith, common_steps)
