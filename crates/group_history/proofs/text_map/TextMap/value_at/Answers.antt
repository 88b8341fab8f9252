use Rattle.std.proofs.Common.{◌≡◌, ◌<◌, length, slice_index_or, ap, sym, subst, ◌∙◌}
use Rattle.std.specs.FinMap as map
use Rattle.group_history.proofs.Newer.{map_rows, same_row}
use Rattle.group_history.proofs.text_map.TextMap.value_at.Goals as goal

pub index-requires : goal.index-requires
index-requires g c =
    let rows = map_rows c.self.inside.rows.items c.args.self.now c.self.invariant c.self.view_is in
    subst (λ n. c.args.place < n) (ap length rows ∙ sym c.self.inside.rows.ok.0) c.requires

pub returns : goal.returns
returns g c row =
    let items = c.self.inside.rows.items in
    let rows = map_rows items c.args.self.now c.self.invariant c.self.view_is in
    ap (λ r. r.1) (c.index.ensures ∙ same_row items c.args.place c.index.result.now row
    (subst (λ l. c.args.place < length l) rows c.requires)
    ∙ ap (λ l. slice_index_or l c.args.place row) (sym rows))
