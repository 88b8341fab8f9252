use Rattle.std.proofs.Common.{◌≡◌, ◌-◌, [], ◌∷◌, ◌++◌, length, map, vec_len, sym, ap, ◌∙◌}
use Rattle.std.proofs.lemmas.List.{length-map}
use Rattle.script_parser.specs.Commands.{with_line}
use Rattle.script_parser.specs.Names.{changed_at}
use Rattle.script_parser.specs.Inside.Parsing.{context_of}
use Rattle.script_parser.specs.Scripts.{line_said, phase_said}
use Rattle.script_parser.proofs.Changes.{map_set-changed_at}
use Rattle.script_parser.proofs.parser.Parser.keep.Goals as goal

pub returns : goal.returns
unfolding with_line
returns c =
    let phases = c.args.self.now.phases in
    let change = changed_at c.args.client (λ lines. lines ++ line_said c.args.line ∷ []) in
    let many : vec_len phases ≡ length (map phase_said phases.items) = phases.ok.0 ∙ sym
    (length-map phases.items phase_said) in
    let kept = map_set-changed_at phase_said change phases.items
    (vec_len phases - 1) c.in-Some.phase.now c.keep.new.self c.in-Some.ensures.value c.in_ok-keep.ensures in
    ap (λ said. record (context_of c.args.self.now) { phases = said })
    (kept ∙ ap (λ n. changed_at (n - 1) change (map phase_said phases.items)) many)
