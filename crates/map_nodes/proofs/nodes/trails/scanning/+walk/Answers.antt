use Rattle.std.proofs.Common.{[], ◌∷◌, ◌≡◌, ◌∙◌, ◌<◌, ap, sym, subst, arith, length, append-nil, reverse}
use Rattle.std.proofs.Common.{slice_index_or}
use Rattle.std.specs.Arc.{arc_value}
use Rattle.group_history.specs.Rows.{paired}
use Rattle.map_chunks.specs.Places.{AreAll, places_of}
use Rattle.map_chunks.specs.Scanning.{Took, Gave, taken}
use Rattle.map_chunks.specs.Search.{IsPlace}
use Rattle.map_chunks.specs.Shown.{rows_or, shown}
use Rattle.map_chunks.specs.Sinks.{HasBegun}
use Rattle.map_chunks.proofs.KeptLemmas.{all_on, grows_on}
use Rattle.map_chunks.proofs.OpenLemmas.{known, tree_of}
use Rattle.map_chunks.proofs.ScanLemmas.{pairs_begun, pairs_over, pairs_child, pairs_all, turn_stopped}
use Rattle.map_chunks.proofs.TakenLemmas.{gave_begun}
use Rattle.map_nodes.proofs.PlaceLemmas.{kid_all}
use Rattle.map_nodes.proofs.ScanLemmas.{kid_turn, shown_kid}
use Rattle.map_nodes.proofs.SpotLemmas.{step_places}
use Rattle.map_nodes.proofs.TrailLemmas.{step-pairs, topmost}
use Rattle.map_nodes.proofs.WalkLemmas.{end_shown, kid_here, step_shown}
use Rattle.map_nodes.specs.Inside.Scanning.{kids_shown, step_kid}
use Rattle.map_nodes.specs.Trails.{step_kids, steps_seen, trail_seen, IsTrail}
use Rattle.map_nodes.proofs.nodes.trails.scanning.+walk.Goals as goal

pub scan_steps-returns-in_default-clause-rows : goal.scan_steps-returns-in_default-clause-rows
scan_steps-returns-in_default-clause-rows g t c =
    let p = g.C.Chunks.contents c.args.chunks.now in
    let has = end_shown p c.args.rest.steps.now c.args.rest.end.now c.as_slice.result.now c.deref-in_default.result.now
    c.in_default.ensures.cases (c.as_slice.ensures.keys ∙ c.deref.ensures)
    c.deref-in_default.ensures.value in
    subst (λ w. Took g.S.TakesRows.has c.args.sink.now c.scan_rows.new.sink c.args.room c.in_ok-left.left
    (taken c.args.scan.now c.args.room w)) has c.in_ok-left.ensures

pub scan_steps-returns-in_err-left-clause-rows : goal.scan_steps-returns-in_err-left-clause-rows
scan_steps-returns-in_err-left-clause-rows g t c =
    let p = g.C.Chunks.contents c.args.chunks.now in
    let has = end_shown p c.args.rest.steps.now c.args.rest.end.now c.as_slice.result.now c.deref-in_default.result.now
    c.in_default.ensures.cases (c.as_slice.ensures.keys ∙ c.deref.ensures)
    c.deref-in_default.ensures.value in
    gave_begun g.S.TakesRows.has c.args.sink.now c.scan_rows.new.sink c.args.room c.from_residual.result _ _
    c.from_residual.ensures.1
    (subst (λ w. HasBegun g.S.TakesRows.has c.args.sink.now c.scan_rows.new.sink (taken c.args.scan.now c.args.room w))
    has c.in_err-left.ensures)

pub scan_steps-scan_children-requires : goal.scan_steps-scan_children-requires
scan_steps-scan_children-requires g t c κs within =
    let s = c.in-Some.step.now in
    let ss = reverse c.in-Some.rest.now in
    let e = c.args.rest.end.now in
    let p = g.C.Chunks.contents c.args.chunks.now in
    let w = topmost c.args.rest.steps.now c.in-Some.rest.now s c.in-Some.ensures.cases.0 in
    let h : IsTrail (s ∷ ss) e = subst (λ z. IsTrail z e) w c.requires.trail in
    let n = known (shown p (steps_seen c.args.rest.steps.now e).pieces) c.requires.tree in
    let shows = step_shown p s (trail_seen ss e) n.rows h.0
    (ap (λ z. shown p (trail_seen z e).pieces) (sym w) ∙ n.is) in
    let places = ap (λ z. places_of (trail_seen z e).pieces) w ∙ step_places s (trail_seen ss e) h.0 in (
      omega (arith, c.in-Some.ensures.cases.1, c.decreases),
      (
        within.0,
        (
          within.1.0,
          (
            within.1.1,
            (
              h,
              (
                subst (AreAll (g.C.Chunks.places c.args.chunks.now)) places c.requires.places,
                tree_of (kids_shown p (paired (arc_value s.keys) (step_kids s (trail_seen ss e)))) n.rows shows
                    n.order,
              ),
            ),
          ),
        ),
      ),
    )

pub scan_steps-returns-clause-rows : goal.scan_steps-returns-clause-rows
scan_steps-returns-clause-rows g t c =
    let s = c.in-Some.step.now in
    let ss = reverse c.in-Some.rest.now in
    let e = c.args.rest.end.now in
    let p = g.C.Chunks.contents c.args.chunks.now in
    let w = topmost c.args.rest.steps.now c.in-Some.rest.now s c.in-Some.ensures.cases.0 in
    let h : IsTrail (s ∷ ss) e = subst (λ z. IsTrail z e) w c.requires.trail in
    let n = known (shown p (steps_seen c.args.rest.steps.now e).pieces) c.requires.tree in
    let shows = step_shown p s (trail_seen ss e) n.rows h.0
    (ap (λ z. shown p (trail_seen z e).pieces) (sym w) ∙ n.is) in
    subst (λ z. Gave g.S.TakesRows.has c.args.sink.now c.scan_children.new.sink c.args.room c.scan_children.result
    (taken c.args.scan.now c.args.room (rows_or z))) (shows ∙ sym n.is) c.scan_children.ensures.rows

pub scan_children-loop-place-init : goal.scan_children-loop-place-init
scan_children-loop-place-init g t c =
    let p = g.C.Chunks.contents c.args.chunks.now in
    let s = c.args.way.step.now in
    let below = steps_seen c.args.way.rest.now c.args.way.end.now in
    let ks = arc_value s.keys in
    let xs = step_kids s below in
    let l = step-pairs s below c.requires.trail.0 in
    let n = known (kids_shown p (paired ks xs)) c.requires.tree in
    let k : c.as_slice-firsts.result.now ≡ ks = c.as_slice-firsts.ensures.keys ∙ c.deref.ensures in
    record {
      grown = (([], append-nil p), λ at h. h);
      rows = pairs_begun (shown_kid p) ks xs c.place_of-place.result n.rows c.args.scan.now c.lowest.result.now
          g.S.TakesRows.has c.args.sink.now c.args.room l n.is n.order c.lowest.ensures
          (subst (λ w. IsPlace c.lowest.result.now w c.place_of-place.result) k
          (subst (λ w. IsPlace w c.as_slice-firsts.result.now c.place_of-place.result) c.as_str.ensures
          c.place_of-place.ensures));
    }

pub scan_children-returns-then-is_over-clause-rows : goal.scan_children-returns-then-is_over-clause-rows
scan_children-returns-then-is_over-clause-rows g t c =
    let p = g.C.Chunks.contents c.args.chunks.now in
    let s = c.args.way.step.now in
    let below = steps_seen c.args.way.rest.now c.args.way.end.now in
    let ks = arc_value s.keys in
    let xs = step_kids s below in
    let l = step-pairs s below c.requires.trail.0 in
    let n = known (kids_shown p (paired ks xs)) c.requires.tree in
    let k : c.as_slice-firsts.result.now ≡ ks = c.as_slice-firsts.ensures.keys ∙ c.deref.ensures in
    let b : c.loop-place.place < length ks = omega (arith, c.loop-place-test.true, ap length k) in
    let first = c.index-firsts-place.result in
    subst (λ w. Took g.S.TakesRows.has c.args.sink.now c.loop-place.sink c.args.room c.loop-place.left
    (taken c.args.scan.now c.args.room (rows_or w))) (sym n.is)
    (pairs_over (shown_kid p) ks xs c.loop-place.place n.rows c.args.scan.now g.S.TakesRows.has c.args.sink.now
    c.loop-place.sink c.args.room c.loop-place.left first l n.is n.order b
    (subst (λ w. first ≡ slice_index_or w c.loop-place.place first) k c.index-firsts-place.is)
    c.loop-place.invariant.rows (sym c.is_over.ensures ∙ c.if-is_over.true))

pub scan_children-scan_child-requires : goal.scan_children-scan_child-requires
scan_children-scan_child-requires g t c κs within =
    let p = g.C.Chunks.contents c.args.chunks.now in
    let s = c.args.way.step.now in
    let below = steps_seen c.args.way.rest.now c.args.way.end.now in
    let ks = arc_value s.keys in
    let xs = step_kids s below in
    let l = step-pairs s below c.requires.trail.0 in
    let n = known (kids_shown p (paired ks xs)) c.requires.tree in
    let k : c.as_slice-firsts.result.now ≡ ks = c.as_slice-firsts.ensures.keys ∙ c.deref.ensures in
    let b : c.loop-place.place < length ks = omega (arith, c.loop-place-test.true, ap length k) in
    let i = c.loop-place.place in
    let kid = step_kid s below i in
    let here = kid_here s below i c.requires.trail.0 b in
    let u = kid_turn p (g.C.Chunks.contents c.loop-place.chunks) ks xs i kid c.loop-place.invariant.grown.0 l n b
    here in
    let may = all_on (g.C.Chunks.places c.args.chunks.now) (g.C.Chunks.places c.loop-place.chunks) _
    c.loop-place.invariant.grown.1
    (kid_all (g.C.Chunks.places c.args.chunks.now) xs i kid (omega (arith, l, b)) here c.requires.places) in (
      omega (arith, c.decreases),
      (
        within.0,
        (
          within.1.0,
          (
            within.1.1,
            (c.requires.trail, (omega (arith, c.requires.trail.0.1, b), (may, u.tree))),
          ),
        ),
      ),
    )

pub scan_children-loop-place-preserved : goal.scan_children-loop-place-preserved
scan_children-loop-place-preserved g t c =
    let p = g.C.Chunks.contents c.args.chunks.now in
    let s = c.args.way.step.now in
    let below = steps_seen c.args.way.rest.now c.args.way.end.now in
    let ks = arc_value s.keys in
    let xs = step_kids s below in
    let l = step-pairs s below c.requires.trail.0 in
    let n = known (kids_shown p (paired ks xs)) c.requires.tree in
    let k : c.as_slice-firsts.result.now ≡ ks = c.as_slice-firsts.ensures.keys ∙ c.deref.ensures in
    let b : c.loop-place.place < length ks = omega (arith, c.loop-place-test.true, ap length k) in
    let i = c.loop-place.place in
    let kid = step_kid s below i in
    let here = kid_here s below i c.requires.trail.0 b in
    let u = kid_turn p (g.C.Chunks.contents c.loop-place.chunks) ks xs i kid c.loop-place.invariant.grown.0 l n b
    here in
    record {
      grown = grows_on g.C.Chunks.contents g.C.Chunks.places c.args.chunks.now c.loop-place.chunks
          c.scan_child.new.chunks c.loop-place.invariant.grown c.scan_child.ensures.grown;
      rows = pairs_child (shown_kid p) ks xs i n.rows c.args.scan.now g.S.TakesRows.has c.args.sink.now
          c.loop-place.sink c.scan_child.new.sink c.args.room c.loop-place.left c.in_ok-left.left u.turn
          c.loop-place.invariant.rows
          (subst (λ w. Took g.S.TakesRows.has c.loop-place.sink c.scan_child.new.sink c.loop-place.left
          c.in_ok-left.left (taken c.args.scan.now c.loop-place.left (rows_or w))) u.rows_are
          c.in_ok-left.ensures.rows);
    }

pub scan_children-returns-in_err-left-clause-rows : goal.scan_children-returns-in_err-left-clause-rows
scan_children-returns-in_err-left-clause-rows g t c =
    let p = g.C.Chunks.contents c.args.chunks.now in
    let s = c.args.way.step.now in
    let below = steps_seen c.args.way.rest.now c.args.way.end.now in
    let ks = arc_value s.keys in
    let xs = step_kids s below in
    let l = step-pairs s below c.requires.trail.0 in
    let n = known (kids_shown p (paired ks xs)) c.requires.tree in
    let k : c.as_slice-firsts.result.now ≡ ks = c.as_slice-firsts.ensures.keys ∙ c.deref.ensures in
    let b : c.loop-place.place < length ks = omega (arith, c.loop-place-test.true, ap length k) in
    let i = c.loop-place.place in
    let kid = step_kid s below i in
    let here = kid_here s below i c.requires.trail.0 b in
    let u = kid_turn p (g.C.Chunks.contents c.loop-place.chunks) ks xs i kid c.loop-place.invariant.grown.0 l n b
    here in
    gave_begun g.S.TakesRows.has c.args.sink.now c.scan_child.new.sink c.args.room c.from_residual.result _ _
    c.from_residual.ensures.1
    (subst (λ w. HasBegun g.S.TakesRows.has c.args.sink.now c.scan_child.new.sink
    (taken c.args.scan.now c.args.room (rows_or w))) (sym n.is)
    (turn_stopped (shown_kid p) (paired ks xs) i n.rows c.args.scan.now g.S.TakesRows.has c.args.sink.now
    c.loop-place.sink c.scan_child.new.sink c.args.room c.loop-place.left u.turn c.loop-place.invariant.rows
    (subst (λ w. HasBegun g.S.TakesRows.has c.loop-place.sink c.scan_child.new.sink
    (taken c.args.scan.now c.loop-place.left (rows_or w))) u.rows_are c.in_err-left.ensures.rows)))

pub scan_children-returns-clause-rows : goal.scan_children-returns-clause-rows
scan_children-returns-clause-rows g t c =
    let p = g.C.Chunks.contents c.args.chunks.now in
    let s = c.args.way.step.now in
    let below = steps_seen c.args.way.rest.now c.args.way.end.now in
    let ks = arc_value s.keys in
    let xs = step_kids s below in
    let l = step-pairs s below c.requires.trail.0 in
    let n = known (kids_shown p (paired ks xs)) c.requires.tree in
    let k : c.as_slice-firsts.result.now ≡ ks = c.as_slice-firsts.ensures.keys ∙ c.deref.ensures in
    subst (λ w. Took g.S.TakesRows.has c.args.sink.now c.loop-place.sink c.args.room c.loop-place.left
    (taken c.args.scan.now c.args.room w))
    (pairs_all (shown_kid p) ks xs c.loop-place.place n.rows l n.is
    (omega (arith, c.place_of-place.ensures.0, ap length k)) ∙ ap rows_or (sym n.is)) c.loop-place.invariant.rows
