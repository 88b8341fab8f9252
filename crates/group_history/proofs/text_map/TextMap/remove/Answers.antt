use Rattle.std.proofs.Common.{ap, sym, subst, ◌∙◌}
use Rattle.std.specs.FinMap as map
use Rattle.group_history.specs.Inside.TextRows.{IsRowAt, IsRowGap}
use Rattle.group_history.proofs.Places.{remove_sorted, remove_made, remove_none}
use Rattle.group_history.proofs.text_map.TextMap.remove.Goals as goal

pub invariant_of-self : goal.invariant_of-self
invariant_of-self g c =
    let key = c.args.key.now in
    let found = subst (λ rows. IsRowAt rows key c.in-Ok.at) c.deref.ensures.value c.in-Ok.ensures in
    remove_sorted c.self.inside.rows.items c.remove.new.self.items key c.in-Ok.at c.self.invariant found
    c.remove.ensures.items

pub returns-in-Ok : goal.returns-in-Ok
returns-in-Ok g c =
    let key = c.args.key.now in
    let found = subst (λ rows. IsRowAt rows key c.in-Ok.at) c.deref.ensures.value c.in-Ok.ensures in
    remove_made c.self.inside.rows.items c.remove.new.self.items key c.in-Ok.at c.self.invariant found
    c.remove.ensures.items
    ∙ ap (λ m. map.remove m key) c.self.view_is

pub returns-in_default : goal.returns-in_default
returns-in_default g c =
    let key = c.args.key.now in
    let gap = subst (λ rows. IsRowGap rows key c.in_default.field-0) c.deref.ensures.value c.in_default.ensures in
    sym c.self.view_is
    ∙ remove_none c.self.inside.rows.items key c.in_default.field-0 c.self.invariant gap
    ∙ ap (λ m. map.remove m key) c.self.view_is
