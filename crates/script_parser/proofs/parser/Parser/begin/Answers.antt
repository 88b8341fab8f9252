use Rattle.std.proofs.Common.{arith}
use Rattle.std.proofs.lemmas.Grind.{common_steps}
use Rattle.script_parser.specs.Commands.{begin_line}
use Rattle.script_parser.proofs.parser.Parser.begin.Goals as goal

pub returns : goal.returns
unfolding begin_line
returns c = grind (arith, common_steps)
