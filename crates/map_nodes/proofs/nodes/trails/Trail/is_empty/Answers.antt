use Rattle.std.proofs.Common.{◌∙◌, ap, sym}
use Rattle.std.specs.Prelude.{◌==◌}
use Rattle.map_chunks.specs.Shown.{Seen, shown}
use Rattle.map_nodes.proofs.SpotLemmas.{none_end, some_step}
use Rattle.map_nodes.proofs.nodes.trails.Trail.is_empty.Goals as goal

pub returns-then-is_empty : goal.returns-then-is_empty
returns-then-is_empty c contents rows h =
    let v = c.self.inside.end.values in
    let ss = c.self.inside.steps in
    c.is_empty-then-is_empty.ensures ∙ ap (λ n. n == 0) v.ok.0
    ∙ none_end contents ss.items c.self.inside.end rows c.self.invariant
    (ap (λ n. n == 0) (sym ss.ok.0) ∙ sym c.is_empty.ensures ∙ c.if-is_empty.true)
    (ap (λ (s : Seen). shown contents s.pieces) c.self.view_is ∙ h)

pub returns-else-is_empty : goal.returns-else-is_empty
returns-else-is_empty c contents rows h =
    let ss = c.self.inside.steps in
    c.if-is_empty.false ∙ some_step contents ss.items c.self.inside.end rows c.self.invariant
    (ap (λ n. n == 0) (sym ss.ok.0) ∙ sym c.is_empty.ensures ∙ c.if-is_empty.false)
    (ap (λ (s : Seen). shown contents s.pieces) c.self.view_is ∙ h)
