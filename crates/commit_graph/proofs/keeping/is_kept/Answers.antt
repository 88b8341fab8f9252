use Rattle.std.proofs.Common.{inl, inr, arith, subst}
use Rattle.group_history.specs.Refs.{stamp_of}
use Rattle.commit_graph.specs.declared.founds.NamedNode.{NamedNode}
use Rattle.commit_graph.specs.Reach.{Reaches}
use Rattle.commit_graph.specs.Inside.Reach.{IsSpelled, ref_in, stamp_in}
use Rattle.commit_graph.proofs.Descending.{map_ordered, reach_low}
use Rattle.commit_graph.proofs.Rooted.{commit_unreached}
use Rattle.commit_graph.proofs.keeping.is_kept.Goals as goal

pub returns-in-Commit-clause-kept : goal.returns-in-Commit-clause-kept
returns-in-Commit-clause-kept g c =
    let m = g.N.Chunks.contents c.args.nodes.now in
    let o = map_ordered m (stamp_of c.args.root) c.requires.root in
    let v = subst (IsSpelled m) c.in-Commit.is c.requires.found in (
      λ t. absurd (cc t),
      λ r. absurd (commit_unreached m (stamp_of c.args.root)
          (stamp_of c.in-Commit.field-0) o.0 v.0 o.1 v.1
          (subst (λ (f : NamedNode). Reaches m (stamp_of c.args.root) (stamp_in f)) c.in-Commit.is r)),
    )

pub is_chunk_kept-requires-clause-places : goal.is_chunk_kept-requires-clause-places
is_chunk_kept-requires-clause-places g c = (
  c.requires.places.0,
  subst (λ (f : NamedNode). g.N.Chunks.places c.args.nodes.now (ref_in f)) c.in-Chunk-3.is
      c.requires.places.1,
)

pub returns-in-Chunk-clause-kept : goal.returns-in-Chunk-clause-kept
returns-in-Chunk-clause-kept g c =
    let m = g.N.Chunks.contents c.args.nodes.now in
    let o = map_ordered m (stamp_of c.args.root) c.requires.root in (
      λ t. absurd (cc t),
      λ r. (let low = reach_low m (stamp_of c.args.root) (stamp_of c.in-Chunk.at) o.0 o.1
          (subst (λ (f : NamedNode). Reaches m (stamp_of c.args.root) (stamp_in f)) c.in-Chunk.is r) in
          absurd (omega (arith, low, c.if-stamp-newest.true, c.stamp.ensures.stamp, c.stamp-newest.ensures.stamp))),
    )

pub returns-in-Chunk-2-clause-kept : goal.returns-in-Chunk-2-clause-kept
returns-in-Chunk-2-clause-kept g c =
    let m = g.N.Chunks.contents c.args.nodes.now in
    let inside = c.has.ensures c.if-has.true in (
      λ t. absurd (cc t),
      λ r. elim (c.requires.gap (stamp_of c.in-Chunk-2.at)
          (subst (λ (f : NamedNode). Reaches m (stamp_of c.args.root) (stamp_in f)) c.in-Chunk-2.is r)) [
            | inl l ↦ absurd (omega (arith, l, inside.0))
            | inr h ↦ absurd (omega (arith, h, inside.1))
          ],
    )
