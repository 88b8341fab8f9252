use Rattle.std.proofs.Common.{rules}
use Rattle.std.proofs.lemmas.Grind.{common_steps}
use Rattle.script_parser.proofs.parser.Parser.settle.Goals as goal

pub returns-in-Phase-clause-settled : goal.returns-in-Phase-clause-settled
returns-in-Phase-clause-settled c = grind (rules, common_steps)
