use Rattle.std.proofs.Common.{ap, subst, ◌∙◌}
use Rattle.std.specs.FinMap as map
use Rattle.group_history.specs.Inside.TextRows.{IsRowAt, IsRowGap}
use Rattle.group_history.proofs.Places.{set_sorted, set_made, insert_sorted, insert_made}
use Rattle.group_history.proofs.text_map.TextMap.insert.Goals as goal

pub invariant_of-self : goal.invariant_of-self
invariant_of-self g c =
    let found = subst (λ rows. IsRowAt rows c.args.key c.in-Ok.at) c.deref.ensures.value c.in-Ok.ensures in
    set_sorted c.self.inside.rows.items c.args.key c.args.value c.in-Ok.at c.self.invariant found

pub returns-in-Ok-clause-ok : goal.returns-in-Ok-clause-ok
returns-in-Ok-clause-ok g c =
    let found = subst (λ rows. IsRowAt rows c.args.key c.in-Ok.at) c.deref.ensures.value c.in-Ok.ensures in
    set_made c.self.inside.rows.items c.args.key c.args.value c.in-Ok.at c.self.invariant found
    ∙ ap (λ m. map.insert m c.args.key c.args.value) c.self.view_is

pub invariant_of-self-2 : goal.invariant_of-self-2
invariant_of-self-2 g c =
    let gap = subst (λ rows. IsRowGap rows c.args.key c.in-Err.gap) c.deref.ensures.value c.in-Err.ensures in
    insert_sorted c.self.inside.rows.items c.insert.new.self.items c.args.key c.args.value c.in-Err.gap c.self.invariant
    gap c.in_ok-insert.ensures.items

pub returns-clause-ok : goal.returns-clause-ok
returns-clause-ok g c =
    let gap = subst (λ rows. IsRowGap rows c.args.key c.in-Err.gap) c.deref.ensures.value c.in-Err.ensures in
    insert_made c.self.inside.rows.items c.insert.new.self.items c.args.key c.args.value c.in-Err.gap c.self.invariant
    gap c.in_ok-insert.ensures.items
    ∙ ap (λ m. map.insert m c.args.key c.args.value) c.self.view_is
