use Rattle.std.proofs.Common.{◌∷◌, ◌∙◌, Some, ap, reverse, sym, subst, nat_cmp}
use Rattle.std.specs.Cmp.Lexicographic.{slice_cmp}
use Rattle.std.specs.FinMap.{find}
use Rattle.std.specs.Arc.{arc_value}
use Rattle.map_chunks.specs.Search.{IsPlace}
use Rattle.map_chunks.specs.Shown.{shown, rows_or, IsTree}
use Rattle.map_nodes.specs.Inside.Spots.{IsSpot}
use Rattle.map_nodes.specs.Trails.{trail_seen, IsTrail}
use Rattle.map_nodes.proofs.SpotLemmas.{spot_leaf, spot_tree, spot_on, spot_off}
use Rattle.map_nodes.proofs.TrailLemmas.{no_steps, topmost}
use Rattle.map_nodes.proofs.nodes.trails.reading.+spot.Goals as goal

pub returns-in_default : goal.returns-in_default
returns-in_default t c contents o =
    let key = c.args.key.now in
    let e = c.args.end.now in
    let w = no_steps c.args.steps.now c.in_default.ensures.cases in
    spot_leaf contents key e
    ∙ ap (λ ss. find (slice_cmp nat_cmp) key (rows_or (shown contents (trail_seen ss e).pieces)))
    (sym w)

pub returns-then-place-step : goal.returns-then-place-step
returns-then-place-step t c contents o =
    let key = c.args.key.now in
    let e = c.args.end.now in
    let s = c.in-Some.step.now in
    let ss = reverse c.in-Some.rest.now in
    let i = c.place_for-place.result in
    let w = topmost c.args.steps.now c.in-Some.rest.now s c.in-Some.ensures.cases.0 in
    let h : IsTrail (s ∷ ss) e = subst (λ z. IsTrail z e) w c.requires in
    let q : IsPlace key (arc_value s.keys) i = subst (λ z. IsPlace key z i) (c.as_slice.ensures.keys ∙ c.deref.ensures)
    c.place_for-place.ensures in
    let o2 : IsTree (shown contents (trail_seen (s ∷ ss) e).pieces) = subst
    (λ z. IsTree (shown contents (trail_seen z e).pieces)) w o in
    subst (λ z. IsSpot contents key (trail_seen z e).pieces e c.spot.result) (sym w)
    (spot_on contents key i s ss e c.spot.result h q c.if-place-step.true o2
    (c.spot.ensures contents (spot_tree contents key i s ss e h q c.if-place-step.true o2)))

pub returns : goal.returns
returns t c contents o =
    let key = c.args.key.now in
    let e = c.args.end.now in
    let s = c.in-Some.step.now in
    let ss = reverse c.in-Some.rest.now in
    let i = c.place_for-place.result in
    let w = topmost c.args.steps.now c.in-Some.rest.now s c.in-Some.ensures.cases.0 in
    let h : IsTrail (s ∷ ss) e = subst (λ z. IsTrail z e) w c.requires in
    let q : IsPlace key (arc_value s.keys) i = subst (λ z. IsPlace key z i) (c.as_slice.ensures.keys ∙ c.deref.ensures)
    c.place_for-place.ensures in
    let o2 : IsTree (shown contents (trail_seen (s ∷ ss) e).pieces) = subst
    (λ z. IsTree (shown contents (trail_seen z e).pieces)) w o in
    subst (λ z. IsSpot contents key (trail_seen z e).pieces e (Some c.index.result.now)) (sym w)
    (spot_off contents key i s ss e c.index.result.now h q c.if-place-step.false c.index.ensures o2)
