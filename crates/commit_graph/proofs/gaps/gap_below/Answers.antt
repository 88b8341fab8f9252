use Rattle.std.proofs.Common.{◌<◌, ◌≤◌, rules, subst, arith}
use Rattle.group_history.specs.Refs.{stamp_of}
use Rattle.group_history.proofs.Lists.{prefix_self}
use Rattle.map_chunks.proofs.KeptLemmas.{IfAt, grows_on}
use Rattle.commit_graph.proofs.Chained.{none_from}
use Rattle.commit_graph.proofs.Narrowing.{narrow_begins, narrow_step, narrow_stops, narrow_ends, tops_may}
use Rattle.commit_graph.proofs.gaps.gap_below.Goals as goal

pub loop-chunks-init : goal.loop-chunks-init
loop-chunks-init g c = let m = g.C.Chunks.contents c.args.chunks.now in (
  narrow_begins m (stamp_of c.args.root) 0 c.args.limit c.requires.root (prefix_self m),
  c.requires.place,
  (prefix_self m, λ at h. h),
)

pub loop-chunks-smaller : goal.loop-chunks-smaller
loop-chunks-smaller g c =
    let m = g.C.Chunks.contents in let k = c.in_ok-tops.ensures.told in
    let above : c.args.limit < stamp_of c.loop-chunks.at = omega
    (arith, c.loop-chunks-test.true, c.stamp.ensures.stamp) in
    let raised : c.loop-chunks.low ≤ c.max-low.result = search rules in
    let second : c.in_ok-tops.tops.second ≤ c.max-low.result = search rules in
    (narrow_step (m c.args.chunks.now) (m c.loop-chunks.chunks) (m c.look_at.new.chunks) (stamp_of c.args.root)
    (stamp_of c.loop-chunks.at) c.loop-chunks.low c.args.limit c.max-low.result k.0.now c.in_ok-tops.tops
    c.loop-chunks.invariant.0 above c.look_at.ensures.grown.0 k.1.1 k.2 raised second c.in-Some.top c.in-Some.is).0

pub loop-chunks-preserved : goal.loop-chunks-preserved
loop-chunks-preserved g c =
    let m = g.C.Chunks.contents in let k = c.in_ok-tops.ensures.told in
    let above : c.args.limit < stamp_of c.loop-chunks.at = omega
    (arith, c.loop-chunks-test.true, c.stamp.ensures.stamp) in
    let raised : c.loop-chunks.low ≤ c.max-low.result = search rules in
    let second : c.in_ok-tops.tops.second ≤ c.max-low.result = search rules in (
      (narrow_step (m c.args.chunks.now) (m c.loop-chunks.chunks) (m c.look_at.new.chunks) (stamp_of c.args.root)
          (stamp_of c.loop-chunks.at) c.loop-chunks.low c.args.limit c.max-low.result k.0.now c.in_ok-tops.tops
          c.loop-chunks.invariant.0 above c.look_at.ensures.grown.0 k.1.1 k.2 raised second c.in-Some.top
          c.in-Some.is).1,
      subst (IfAt (g.C.Chunks.places c.look_at.new.chunks)) c.in-Some.is
          (tops_may (g.C.Chunks.places c.look_at.new.chunks) _ c.in_ok-tops.tops k.1.0 k.2),
      grows_on g.C.Chunks.contents g.C.Chunks.places c.args.chunks.now c.loop-chunks.chunks c.look_at.new.chunks
          c.loop-chunks.invariant.2 c.look_at.ensures.grown,
    )

pub returns-in_default-clause-gap : goal.returns-in_default-clause-gap
returns-in_default-clause-gap g c =
    let m = g.C.Chunks.contents in let k = c.in_ok-tops.ensures.told in
    let above : c.args.limit < stamp_of c.loop-chunks.at = omega
    (arith, c.loop-chunks-test.true, c.stamp.ensures.stamp) in
    let raised : c.loop-chunks.low ≤ c.max-low.result = search rules in
    let second : c.in_ok-tops.tops.second ≤ c.max-low.result = search rules in
    narrow_stops (m c.args.chunks.now) (m c.loop-chunks.chunks) (m c.look_at.new.chunks) (stamp_of c.args.root)
    (stamp_of c.loop-chunks.at) c.loop-chunks.low c.args.limit c.max-low.result k.0.now c.in_ok-tops.tops
    c.loop-chunks.invariant.0 above c.look_at.ensures.grown.0 k.1.1 k.2 raised second
    (none_from c.in_ok-tops.tops.top c.in_default.not-Some)

pub returns-clause-gap : goal.returns-clause-gap
returns-clause-gap g c =
    let m = g.C.Chunks.contents in
    let raised : c.loop-chunks.low ≤ c.max.result = search rules in
    let last : c.stamp-2.result ≤ c.max.result = search rules in
    narrow_ends (m c.args.chunks.now) (m c.loop-chunks.chunks) (stamp_of c.args.root) (stamp_of c.loop-chunks.at)
    c.loop-chunks.low c.args.limit c.max.result c.loop-chunks.invariant.0 raised
    (omega (arith, last, c.stamp-2.ensures.stamp))

pub look_at-requires-clause-place : goal.look_at-requires-clause-place
look_at-requires-clause-place g c = c.loop-chunks.invariant.1

pub returns-in_err-tops-clause-grown : goal.returns-in_err-tops-clause-grown
returns-in_err-tops-clause-grown g c =
    grows_on g.C.Chunks.contents g.C.Chunks.places _ _ _ c.loop-chunks.invariant.2 c.look_at.ensures.grown

pub returns-in_default-clause-grown : goal.returns-in_default-clause-grown
returns-in_default-clause-grown g c =
    grows_on g.C.Chunks.contents g.C.Chunks.places _ _ _ c.loop-chunks.invariant.2 c.look_at.ensures.grown

pub returns-clause-grown : goal.returns-clause-grown
returns-clause-grown g c =
    c.loop-chunks.invariant.2
