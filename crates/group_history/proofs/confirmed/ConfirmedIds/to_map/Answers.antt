use Rattle.std.proofs.Common.{◌≡◌, ap, ◌∙◌}
use Rattle.std.proofs.lemmas.Result.{IfOk-weaker}
use Rattle.std.specs.Arc.{arc_value}
use Rattle.std.specs.FinMap as map
use Rattle.group_history.specs.Inside.Newer.{ids_above, with_newer}
use Rattle.group_history.specs.State.{Ids}
use Rattle.group_history.proofs.Newer.{flat_above}
use Rattle.group_history.proofs.confirmed.ConfirmedIds.to_map.Goals as goal

pub returns : goal.returns
returns c =
    let table = c.deref.result.now in let newer = c.deref-2.result.now in
    IfOk-weaker c.flat.result (λ (ids : Ids). map.entries ids ≡ with_newer (map.entries table) newer)
    (λ (ids : Ids). ids ≡ c.args.self.now) (λ ids is. flat_above table ids newer is
    ∙ ap (λ (t : Ids). ids_above t newer) c.deref.ensures
    ∙ ap (ids_above (arc_value c.self.inside.table)) c.deref-2.ensures.value ∙ c.self.view_is) c.flat.ensures
