use Rattle.std.proofs.Common.{ap, sym, ◌∙◌}
use Rattle.std.specs.Arc.{arc_value}
use Rattle.group_history.specs.Rows.{keys_of}
use Rattle.group_history.proofs.Pairs.{keys_of-paired}
use Rattle.group_history.proofs.nodes.Inner.firsts.Goals as goal

pub returns-clause-keys : goal.returns-clause-keys
returns-clause-keys g c = sym (keys_of-paired
    (arc_value c.self.inside.firsts) c.self.inside.children.items c.self.invariant.1) ∙ ap
    (λ w. keys_of w) c.self.view_is
