use Rattle.std.proofs.Common.{ap, sym, ◌∙◌}
use Rattle.std.specs.Arc.{arc_value}
use Rattle.group_history.specs.Rows.{keys_of, values_of}
use Rattle.group_history.proofs.Pairs.{keys_of-paired, values_of-paired}
use Rattle.group_history.proofs.nodes.Inner.into_parts.Goals as goal

pub returns-clause-firsts : goal.returns-clause-firsts
returns-clause-firsts g c = sym (keys_of-paired
    (arc_value c.self.inside.firsts) c.self.inside.children.items c.self.invariant.1) ∙ ap
    (λ w. keys_of w) c.self.view_is

pub returns-clause-children : goal.returns-clause-children
returns-clause-children g c = sym (values_of-paired
    (arc_value c.self.inside.firsts) c.self.inside.children.items c.self.invariant.1) ∙ ap
    (λ w. values_of w) c.self.view_is
