use Rattle.std.proofs.Common.{rules}
use Rattle.script_parser.specs.Commands.{has_line}
use Rattle.script_parser.proofs.parser.Parser.has.Goals as goal

pub returns : goal.returns
unfolding has_line
returns c = search rules
