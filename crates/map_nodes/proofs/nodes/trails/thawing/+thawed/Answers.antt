use Rattle.std.proofs.Common.{◌∷◌, ◌≡◌, ◌∙◌, ◌+◌, ap, arith, length, reverse, set, subst, sym}
use Rattle.std.specs.Arc.{arc_value}
use Rattle.group_history.specs.Rows.{AreKeys}
use Rattle.map_nodes.proofs.TrailLemmas.{node_over, seen_over, steps_depth, topmost}
use Rattle.map_nodes.specs.Trails.{placed_kids, steps_seen, trail_seen, IsTrail}
use Rattle.map_nodes.specs.declared.nodes.OwnChild.TheVariants.{Own}
use Rattle.map_nodes.proofs.nodes.trails.thawing.+thawed.Goals as goal

pub invariant_of-result : goal.invariant_of-result
invariant_of-result t c =
    let s = c.in-Some.step.now in
    let ss = c.in-Some.rest.now in
    let e = c.args.end.now in
    let w = topmost c.args.steps.now ss s c.in-Some.ensures.cases.0 in
    let h : IsTrail (s ∷ reverse ss) e = subst (λ z. IsTrail z e) w c.requires in
    let kids = c.in_ok-kids.ensures in
    let d : length c.args.steps.now + 1 ≡ (steps_seen ss e).depth + 1 = omega
    (arith, c.in-Some.ensures.cases.1, steps_depth ss e) in
    let k : c.shared-keys.result.texts ≡ arc_value s.keys = c.shared-keys.ensures ∙ c.in_ok-clone.ensures.cases in (
      subst AreKeys (sym k) h.0.0,
      node_over s (steps_seen ss e) kids.0 (length c.args.steps.now + 1) c.shared-keys.result.texts
          c.in_ok-kids.kids.items h.0 d k (kids.1 ∙ c.in_ok-below.ensures)
          (kids.2 ∙ ap (λ z. set (placed_kids z) s.place (Own kids.0)) c.deref.ensures.value),
    )

pub returns : goal.returns
returns t c =
    let s = c.in-Some.step.now in
    let ss = c.in-Some.rest.now in
    let e = c.args.end.now in
    let w = topmost c.args.steps.now ss s c.in-Some.ensures.cases.0 in
    let kids = c.in_ok-kids.ensures in
    let d : length c.args.steps.now + 1 ≡ (steps_seen ss e).depth + 1 = omega
    (arith, c.in-Some.ensures.cases.1, steps_depth ss e) in
    let k : c.shared-keys.result.texts ≡ arc_value s.keys = c.shared-keys.ensures ∙ c.in_ok-clone.ensures.cases in
    seen_over s (steps_seen ss e) kids.0 (length c.args.steps.now + 1) c.shared-keys.result.texts
    c.in_ok-kids.kids.items d k (kids.1 ∙ c.in_ok-below.ensures)
    (kids.2 ∙ ap (λ z. set (placed_kids z) s.place (Own kids.0)) c.deref.ensures.value)
    ∙ ap (λ z. trail_seen z e) (sym w)
