use Rattle.std.proofs.Common.{◌<◌, length, ap, sym, subst, ◌∙◌}
use Rattle.group_history.proofs.Newer.{map_rows}
use Rattle.group_history.proofs.text_map.TextMap.key_at.Goals as goal

pub index-requires : goal.index-requires
index-requires g c =
    let rows = map_rows c.self.inside.rows.items c.args.self.now c.self.invariant c.self.view_is in
    subst (λ n. c.args.place < n) (ap length rows ∙ sym c.self.inside.rows.ok.0) c.requires
