use Rattle.std.proofs.Common.{[], ◌∷◌, ap, ◌∙◌, refl, sym, map}
use Rattle.std.proofs.lemmas.List.{map-append}
use Rattle.script_parser.specs.Scripts.{line_said}
use Rattle.script_parser.proofs.Parts.{with_more}
use Rattle.script_parser.proofs.script.Phase.keep.Goals as goal

pub returns : goal.returns
returns c =
    let phase = c.args.self.now in
    let line = c.args.line in
    let was = c.index_mut.result.now in
    with_more phase.parts.items c.args.client c.in-Some.place was
    (record { client = was.client; lines = c.push.new.self }) (line_said line) phase.clients
    (sym c.part_of.ensures ∙ c.in-Some.is) c.index_mut.ensures.value refl
    (ap (map line_said) c.in_ok-push.ensures.items ∙ map-append line_said was.lines.items (line ∷ []))
