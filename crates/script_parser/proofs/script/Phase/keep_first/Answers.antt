use Rattle.std.proofs.Common.{List, [], ◌∷◌, ◌++◌, ap, ◌∙◌, map}
use Rattle.std.specs.List.{range_with_len}
use Rattle.script_parser.specs.declared.script.Line.{Line}
use Rattle.script_parser.specs.declared.script.ClientPart.{ClientPart}
use Rattle.script_parser.specs.Scripts.{line_said, lines_at}
use Rattle.script_parser.proofs.Parts.{with_first}
use Rattle.script_parser.proofs.script.Phase.keep_first.Goals as goal

pub returns : goal.returns
returns c =
    let phase = c.args.self.now in
    let line = c.args.line in
    ap (λ (ps : List ClientPart). map (lines_at ps) (range_with_len 0 phase.clients)) c.in_ok-push-2.ensures.items
    ∙ with_first phase.parts.items (record { client = c.args.client; lines = c.push.new.self }) (line_said line)
    phase.clients c.requires
    (ap (map line_said)
    (c.in_ok-push.ensures.items ∙ ap (λ (ls : List Line). ls ++ line ∷ []) c.in_ok-lines.ensures.items))
