use Rattle.std.proofs.Common.{ap, ◌∙◌, sym, map}
use Rattle.script_parser.specs.Scripts.{line_said}
use Rattle.script_parser.proofs.Parts.{lines_found, lines_none}
use Rattle.script_parser.proofs.script.Phase.lines_of.Goals as goal

pub returns-in-Some : goal.returns-in-Some
returns-in-Some c =
    ap (map line_said) c.deref.ensures.value ∙ lines_found c.args.self.now.parts.items c.args.client c.in-Some.place
    c.index.result.now (sym c.part_of.ensures ∙ c.in-Some.is) c.index.ensures

pub returns-in-None : goal.returns-in-None
returns-in-None c = sym (lines_none c.args.self.now.parts.items c.args.client (sym c.part_of.ensures ∙ c.in-None.is))
