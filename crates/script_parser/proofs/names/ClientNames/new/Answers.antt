use Rattle.script_parser.proofs.Numbering.{IsNumbering-none}
use Rattle.script_parser.proofs.names.ClientNames.new.Goals as goal

pub invariant_of-result : goal.invariant_of-result
invariant_of-result c = IsNumbering-none c.new.result c.new.ensures.empty
