use Rattle.std.proofs.Common.{length, ap, sym, ◌∙◌}
use Rattle.group_history.proofs.Newer.{map_rows}
use Rattle.group_history.proofs.text_map.TextMap.len.Goals as goal

pub returns : goal.returns
returns g c =
    c.len.ensures ∙ c.self.inside.rows.ok.0
    ∙ ap length (sym (map_rows c.self.inside.rows.items c.args.self.now c.self.invariant c.self.view_is))
