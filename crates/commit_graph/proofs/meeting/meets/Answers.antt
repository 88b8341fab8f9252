use Rattle.std.proofs.Common.{◌≡◌, ◌<◌, ◌≤◌, subst, sym, ◌∙◌, arith}
use Rattle.std.proofs.lemmas.Bool.{eqb-true, eq-eqb}
use Rattle.group_history.specs.Refs.{stamp_of}
use Rattle.group_history.proofs.Lists.{prefix_self}
use Rattle.map_chunks.proofs.KeptLemmas.{IfAt, grows_on}
use Rattle.commit_graph.proofs.Chained.{none_from}
use Rattle.commit_graph.proofs.Descending.{child_may, meeting_begins, meeting_step, meeting_stops, meeting_ends}
use Rattle.commit_graph.proofs.meeting.meets.Goals as goal

pub loop-chunks-init : goal.loop-chunks-init
loop-chunks-init g c = let m = g.C.Chunks.contents c.args.chunks.now in (
  meeting_begins m (stamp_of c.args.root) c.args.stamp c.args.key.now c.requires.root c.requires.key (prefix_self m),
  c.requires.place,
  (prefix_self m, λ at h. h),
)

pub loop-chunks-smaller : goal.loop-chunks-smaller
loop-chunks-smaller g c =
    let m = g.C.Chunks.contents in let k = c.in_ok-child.ensures.told in
    let low : c.args.stamp < stamp_of c.loop-chunks.at = omega
    (arith, c.loop-chunks-test.true, c.stamp.ensures.stamp) in
    (meeting_step (m c.args.chunks.now) (m c.loop-chunks.chunks) (m c.look_at.new.chunks) c.args.key.now
    (stamp_of c.args.root) (stamp_of c.loop-chunks.at) c.args.stamp k.0.now c.in-Some.child c.loop-chunks.invariant.0
    low c.look_at.ensures.grown.0 k.1.1 (sym k.2.1 ∙ c.in-Some.is)).0

pub loop-chunks-preserved : goal.loop-chunks-preserved
loop-chunks-preserved g c =
    let m = g.C.Chunks.contents in let k = c.in_ok-child.ensures.told in
    let low : c.args.stamp < stamp_of c.loop-chunks.at = omega
    (arith, c.loop-chunks-test.true, c.stamp.ensures.stamp) in (
      (meeting_step (m c.args.chunks.now) (m c.loop-chunks.chunks) (m c.look_at.new.chunks) c.args.key.now
          (stamp_of c.args.root) (stamp_of c.loop-chunks.at) c.args.stamp k.0.now c.in-Some.child
          c.loop-chunks.invariant.0
          low c.look_at.ensures.grown.0 k.1.1 (sym k.2.1 ∙ c.in-Some.is)).1,
      subst (IfAt (g.C.Chunks.places c.look_at.new.chunks)) c.in-Some.is
          (child_may (g.C.Chunks.places c.look_at.new.chunks) c.args.key.now k.0.now c.in_ok-child.child k.1.0 k.2.1),
      grows_on g.C.Chunks.contents g.C.Chunks.places c.args.chunks.now c.loop-chunks.chunks c.look_at.new.chunks
          c.loop-chunks.invariant.2 c.look_at.ensures.grown,
    )

pub returns-in_default-clause-met : goal.returns-in_default-clause-met
returns-in_default-clause-met g c =
    let m = g.C.Chunks.contents in let k = c.in_ok-child.ensures.told in
    let low : c.args.stamp < stamp_of c.loop-chunks.at = omega
    (arith, c.loop-chunks-test.true, c.stamp.ensures.stamp) in
    let stops = meeting_stops (m c.args.chunks.now) (m c.loop-chunks.chunks) (m c.look_at.new.chunks) c.args.key.now
    (stamp_of c.args.root) (stamp_of c.loop-chunks.at) c.args.stamp k.0.now c.loop-chunks.invariant.0 low
    c.look_at.ensures.grown.0 k.1.1 (sym k.2.1 ∙ none_from c.in_ok-child.child c.in_default.not-Some) in
    (λ t. absurd (cc t), λ r. absurd (stops r))

pub returns-clause-met : goal.returns-clause-met
returns-clause-met g c =
    let m = g.C.Chunks.contents in
    let low : stamp_of c.loop-chunks.at ≤ c.args.stamp = omega
    (arith, c.loop-chunks-test.false, c.stamp.ensures.stamp) in
    let ends = meeting_ends (m c.args.chunks.now) (m c.loop-chunks.chunks) c.args.key.now (stamp_of c.args.root)
    (stamp_of c.loop-chunks.at) c.args.stamp c.loop-chunks.invariant.0 low in
    let again : c.stamp-2.result ≡ stamp_of c.loop-chunks.at = c.stamp-2.ensures.stamp in (
      λ t. ends.0 (sym again ∙ eqb-true c.stamp-2.result c.args.stamp t),
      λ r. eq-eqb c.stamp-2.result c.args.stamp (again ∙ ends.1 r),
    )

pub look_at-requires-clause-place : goal.look_at-requires-clause-place
look_at-requires-clause-place g c = c.loop-chunks.invariant.1

pub returns-in_default-clause-grown : goal.returns-in_default-clause-grown
returns-in_default-clause-grown g c =
    grows_on g.C.Chunks.contents g.C.Chunks.places _ _ _
    c.loop-chunks.invariant.2 c.look_at.ensures.grown

pub returns-in_err-child-clause-grown : goal.returns-in_err-child-clause-grown
returns-in_err-child-clause-grown g c =
    grows_on g.C.Chunks.contents g.C.Chunks.places _ _ _
    c.loop-chunks.invariant.2 c.look_at.ensures.grown
