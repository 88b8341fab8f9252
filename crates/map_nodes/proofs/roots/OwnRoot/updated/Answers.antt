use Rattle.std.proofs.Common.{◌<◌, true, arith, rules, subst, sym}
use Rattle.group_history.specs.Refs.{stamps, stamp_of}
use Rattle.map_chunks.proofs.WayLemmas.{depth_later, rows_later}
use Rattle.map_chunks.specs.Seeking.{chunk_depth}
use Rattle.map_chunks.specs.Shown.{chunk_rows, rows_or, IsTree}
use Rattle.map_nodes.proofs.DepthLemmas.{depth-low}
use Rattle.map_nodes.proofs.UpdateLemmas.{updated_since}
use Rattle.map_nodes.specs.Inside.Laying.{IsChunkEnd}
use Rattle.map_nodes.proofs.roots.OwnRoot.updated.Goals as goal

pub settled-requires-clause-tree : goal.settled-requires-clause-tree
settled-requires-clause-tree g c =
    subst IsTree (sym (rows_later (g.C.Chunks.contents c.args.chunks.now) (g.C.Chunks.contents c.change_at.new.chunks)
    (stamp_of c.args.at) c.change_at.ensures.grown.0 c.requires.tree)) c.requires.tree

pub settled-requires-clause-reached : goal.settled-requires-clause-reached
settled-requires-clause-reached g c =
    let p = g.C.Chunks.contents c.args.chunks.now in
    let q = g.C.Chunks.contents c.change_at.new.chunks in
    let may = g.C.Chunks.places c.change_at.new.chunks in
    let k = stamp_of c.args.at in
    let key = c.args.key.now in
    let l = c.change_at.new.laying in
    let x = l.reached in
    let r = c.in_ok-change_at.ensures.reached in
    let rows = rows_later p q k c.change_at.ensures.grown.0 c.requires.tree in
    let depth = depth_later p q k c.change_at.ensures.grown.0 c.requires.tree in (
      r.0,
      subst (λ w. IsChunkEnd q may 1 true k w (rows_or (chunk_rows q k)) key r.0 x l) (sym depth)
          (subst (λ w. IsChunkEnd q may 1 true k (chunk_depth p k) (rows_or w) key r.0 x l) (sym rows) r.2),
    )

pub returns-clause-updated : goal.returns-clause-updated
returns-clause-updated g c =
    let p = g.C.Chunks.contents c.args.chunks.now in
    let q = g.C.Chunks.contents c.change_at.new.chunks in
    let may = g.C.Chunks.places c.change_at.new.chunks in
    let k = stamp_of c.args.at in
    let key = c.args.key.now in
    let l = c.change_at.new.laying in
    let x = l.reached in
    let r = c.in_ok-change_at.ensures.reached in
    let rows = rows_later p q k c.change_at.ensures.grown.0 c.requires.tree in
    let depth = depth_later p q k c.change_at.ensures.grown.0 c.requires.tree in
    let now = subst (λ w. IsChunkEnd q may 1 true k w (rows_or (chunk_rows q k)) key r.0 x l) (sym depth)
    (subst (λ w. IsChunkEnd q may 1 true k (chunk_depth p k) (rows_or w) key r.0 x l) (sym rows) r.2) in (
      r.0,
      r.1,
      updated_since p q q may k key r.0 _ c.change_at.ensures.grown.0 c.requires.tree
          (c.in_ok-settled.ensures r.0 now),
    )

pub change_at-requires-clause-copies : goal.change_at-requires-clause-copies
change_at-requires-clause-copies g c d deep =
    let low = depth-low (g.C.Chunks.contents c.args.chunks.now) (stamp_of c.args.at) d deep in
    let bound : stamp_of c.args.at < stamps = search rules in
    omega (arith, low, bound)
