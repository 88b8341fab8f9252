use Rattle.std.proofs.Common.{ap, sym, subst, ◌∙◌, Some}
use Rattle.std.specs.FinMap as map
use Rattle.group_history.specs.Inside.TextRows.{IsRowAt, IsRowGap}
use Rattle.group_history.proofs.Places.{get_found, get_none}
use Rattle.group_history.proofs.text_map.TextMap.get.Goals as goal

pub returns-in-Ok : goal.returns-in-Ok
returns-in-Ok g c =
    let key = c.args.key.now in
    let found = subst (λ rows. IsRowAt rows key c.in-Ok.at) c.deref.ensures.value c.in-Ok.ensures in
    ap (λ row. Some row.1) c.index.ensures
    ∙ sym (get_found c.self.inside.rows.items key c.in-Ok.at c.self.invariant found c.index.result.now)
    ∙ ap (λ m. map.get m key) c.self.view_is

pub returns-in-Err : goal.returns-in-Err
returns-in-Err g c =
    let key = c.args.key.now in
    let gap = subst (λ rows. IsRowGap rows key c.in-Err.field-0) c.deref.ensures.value c.in-Err.ensures in
    sym (get_none c.self.inside.rows.items key c.in-Err.field-0 c.self.invariant gap)
    ∙ ap (λ m. map.get m key) c.self.view_is
