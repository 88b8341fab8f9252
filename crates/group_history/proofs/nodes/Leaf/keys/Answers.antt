use Rattle.std.proofs.Common.{ap, sym, ◌∙◌}
use Rattle.std.specs.Arc.{arc_value}
use Rattle.group_history.specs.Rows.{Rows, keys_of}
use Rattle.group_history.proofs.Pairs.{keys_of-paired}
use Rattle.group_history.proofs.nodes.Leaf.keys.Goals as goal

pub returns-clause-keys : goal.returns-clause-keys
returns-clause-keys c = sym (keys_of-paired
    (arc_value c.self.inside.keys) c.self.inside.values.items c.self.invariant.1) ∙ ap
    (λ (w : Rows). keys_of w) c.self.view_is
