use Rattle.std.proofs.Common.{ℕ, slice_index_or, ap, refl, sym, ◌∙◌}
use Rattle.std.specs.FinMap as map
use Rattle.group_history.specs.Map.{Bytes}
use Rattle.group_history.specs.Inside.Newer.{newest_at}
use Rattle.group_history.specs.State.{Ids}
use Rattle.group_history.proofs.Newer.{id_above, no_id_above}
use Rattle.group_history.proofs.confirmed.id_of.Goals as goal

pub returns-in-Some : goal.returns-in-Some
returns-in-Some c =
    let row : Bytes × ℕ = (c.args.client.now, 0) in
    let is = c.value_at.ensures row
    ∙ ap (λ (ids : Ids). (slice_index_or (map.entries ids) c.in-Some.place row).1) c.as_map.ensures in
    c.newest_at.ensures
    ∙ ap (newest_at c.in-Some.place c.args.newer.now) is
    ∙ sym (id_above c.args.table.now c.args.newer.now c.args.client.now c.in-Some.place row c.in-Some.ensures.found)

pub returns-in-None : goal.returns-in-None
returns-in-None c =
    sym (no_id_above c.args.table.now c.args.newer.now c.args.client.now (c.in-None.ensures.none refl))
