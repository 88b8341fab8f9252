use Rattle.std.proofs.Common.{rules, ap, ◌∙◌}
use Rattle.group_history.specs.Pulling.{goes_back}
use Rattle.group_history.proofs.IdLemmas.{pull_kept}
use Rattle.group_history.proofs.plain.PlainGroup.rebased.Goals as goal

pub invariant_of-result : goal.invariant_of-result
invariant_of-result g c =
    pull_kept g.M.Means.means c.in_ok-shown.shown.view c.in_ok-shown.shown.pulled c.self.inside.confirmed
    c.in_ok-left.left.confirmed c.args.pull.now.changes c.self.inside.pending.items c.in_ok-left.left.pending.items
    c.self.invariant.ids (ap (λ s. goes_back s.confirmed c.args.pull.now.changes) c.self.view_is ∙ c.requires)
    (rw c.changes.ensures.changes at c.changes.ensures.in_range) (search rules) (search rules) (search rules)
