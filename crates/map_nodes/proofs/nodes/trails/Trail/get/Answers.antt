use Rattle.std.proofs.Common.{◌∙◌, ap, length, sym}
use Rattle.map_nodes.proofs.TrailLemmas.{steps_end}
use Rattle.map_nodes.proofs.nodes.trails.Trail.get.Goals as goal

pub value_at-requires-clause-values : goal.value_at-requires-clause-values
value_at-requires-clause-values g c = ap length c.deref-in-None-2.ensures.value
    ∙ (steps_end c.self.inside.steps.items c.self.inside.end c.self.invariant).1
    ∙ ap length (sym (c.as_slice.ensures.keys ∙ c.deref-in-None.ensures))
