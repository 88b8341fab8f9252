use Rattle.std.proofs.Common.{ap, sym, ◌∙◌}
use Rattle.std.specs.Arc.{arc_value}
use Rattle.group_history.specs.Rows.{Rows, values_of}
use Rattle.group_history.proofs.Pairs.{values_of-paired}
use Rattle.group_history.proofs.nodes.Leaf.values.Goals as goal

pub returns : goal.returns
returns c = c.deref.ensures.value ∙ (sym
    (values_of-paired (arc_value c.self.inside.keys) c.self.inside.values.items c.self.invariant.1) ∙ ap
    (λ (w : Rows). values_of w) c.self.view_is)
