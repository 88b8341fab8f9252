use Rattle.std.proofs.Common.{ap, ◌∙◌}
use Rattle.std.specs.Arc.{arc_value}
use Rattle.group_history.specs.Inside.Newer.{ids_above}
use Rattle.group_history.proofs.Newer.{none_above}
use Rattle.group_history.proofs.confirmed.ConfirmedIds.new.Goals as goal

pub returns : goal.returns
returns c =
    ap (ids_above (arc_value c.in_ok-table.table)) c.new-3.ensures.items
    ∙ none_above (arc_value c.in_ok-table.table) ∙ c.in_ok-table.ensures.ok ∙ c.in_ok-ids.ensures
