use Rattle.std.proofs.Common.{ap, sym, subst, ◌∙◌}
use Rattle.std.specs.FinMap as map
use Rattle.group_history.specs.Inside.TextRows.{IsRowAt, IsRowGap}
use Rattle.group_history.proofs.Newer.{map_rows}
use Rattle.group_history.proofs.Places.{get_none}
use Rattle.group_history.proofs.text_map.TextMap.place.Goals as goal

pub returns-in-Ok-clause-found : goal.returns-in-Ok-clause-found
returns-in-Ok-clause-found g c =
    let key = c.args.key.now in
    let found = subst (λ rows. IsRowAt rows key c.in-Ok.place) c.deref.ensures.value c.in-Ok.ensures in
    subst (λ rows. IsRowAt rows key c.in-Ok.place)
    (sym (map_rows c.self.inside.rows.items c.args.self.now c.self.invariant c.self.view_is)) found

pub returns-in-Err-clause-none : goal.returns-in-Err-clause-none
returns-in-Err-clause-none g c = λ _.
    let key = c.args.key.now in
    let gap = subst (λ rows. IsRowGap rows key c.in-Err.field-0) c.deref.ensures.value c.in-Err.ensures in
    ap (λ m. map.get m key) (sym c.self.view_is)
    ∙ get_none c.self.inside.rows.items key c.in-Err.field-0 c.self.invariant gap
