use Rattle.std.proofs.Common.{List, ap, ◌∙◌, map}
use Rattle.std.specs.List.{range_with_len}
use Rattle.script_parser.specs.declared.script.ClientPart.{ClientPart}
use Rattle.script_parser.specs.Scripts.{lines_at}
use Rattle.script_parser.proofs.Parts.{no_lines}
use Rattle.script_parser.proofs.script.Phase.new.Goals as goal

pub returns : goal.returns
returns c =
    ap (λ (ps : List ClientPart). map (lines_at ps) (range_with_len 0 c.args.clients)) c.new.ensures.items
    ∙ no_lines 0 c.args.clients
