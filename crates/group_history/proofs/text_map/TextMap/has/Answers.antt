use Rattle.std.proofs.Common.{ap, subst, ◌∙◌}
use Rattle.std.specs.FinMap as map
use Rattle.group_history.specs.Inside.TextRows.{IsRowPlace}
use Rattle.group_history.proofs.Places.{has_place}
use Rattle.group_history.proofs.text_map.TextMap.has.Goals as goal

pub returns : goal.returns
returns g c =
    let key = c.args.key.now in
    let place = subst (λ rows. IsRowPlace rows key c.place_of.result) c.deref.ensures.value c.place_of.ensures in
    c.is_ok.ensures.value ∙ has_place c.self.inside.rows.items key c.place_of.result c.self.invariant place
    ∙ ap (λ m. map.contains_key m key) c.self.view_is
