use Rattle.std.proofs.Common.{◌∙◌, true, Some, None, ap, subst, sym, refl}
use Rattle.group_history.specs.Refs.{stamp_of}
use Rattle.map_chunks.specs.Seeking.{chunk_depth}
use Rattle.map_chunks.specs.Shown.{chunk_rows, rows_or}
use Rattle.map_nodes.proofs.UpdateLemmas.{made_order, made_root}
use Rattle.map_nodes.specs.Inside.Laying.{IsBuilt, IsChunkEnd}
use Rattle.map_nodes.specs.Trails.{steps_seen}
use Rattle.map_nodes.specs.Updating.{IsPutIn, IsUpdated}
use Rattle.map_nodes.proofs.roots.OwnRoot.settled.Goals as goal

pub returns-in-Laid : goal.returns-in-Laid
returns-in-Laid g c u reached =
    let p = g.C.Chunks.contents c.args.chunks.now in
    let may = g.C.Chunks.places c.args.chunks.now in
    let k = stamp_of c.args.at in
    let key = c.args.down.now.key.now in
    let rows = rows_or (chunk_rows p k) in
    let l = c.args.laying in
    let h = subst (λ w. IsChunkEnd p may 1 true k (chunk_depth p k) rows key u w l) c.in-Laid.is reached in
    let deep = h.4.0 in
    let end = h.4.2.0 in
    let seen = steps_seen l.steps.items end in
    let root = c.made.ensures.1 ∙ ap (λ w. Some w) (c.of_trail.ensures ∙ c.of.ensures end h.4.2.1) in
    subst (λ w. IsUpdated p p may k key w c.made.result) (sym h.1) (
      c.made.ensures.0,
      subst (IsPutIn p p may k key h.0) (sym root)
          (deep, h.4.1, made_root p may k deep key h.0 rows seen seen None h.2 h.4.2.3 refl),
    )

pub of-requires : goal.of-requires
of-requires g c =
    let p = g.C.Chunks.contents c.args.chunks.now in
    let k = stamp_of c.args.at in
    let h = subst (λ w. IsChunkEnd p (g.C.Chunks.places c.args.chunks.now) 1 true k (chunk_depth p k)
    (rows_or (chunk_rows p k)) c.args.down.now.key.now c.requires.reached.0 w c.args.laying) c.in-Laid.is
    c.requires.reached.1 in
    (h.4.2.0, h.4.2.1, h.4.2.2)

pub topped-requires-clause-order : goal.topped-requires-clause-order
topped-requires-clause-order g c =
    let p = g.C.Chunks.contents c.args.chunks.now in
    let may = g.C.Chunks.places c.args.chunks.now in
    let k = stamp_of c.args.at in
    let key = c.args.down.now.key.now in
    let rows = rows_or (chunk_rows p k) in
    let n = c.in-Grown.node.value in
    let h = subst (λ w. IsChunkEnd p may 1 true k (chunk_depth p k) rows key c.requires.reached.0 w c.args.laying)
    c.in-Grown.is c.requires.reached.1 in
    let built = subst (IsBuilt p may 1 k h.3.0 rows key h.0 n) (sym c.into_half.ensures) h.3.3 in
    (p, made_order p may 1 k h.3.0 key h.0 (chunk_rows p k) n c.into_half.result c.requires.tree built)

pub returns-in_ok-root-in-Grown : goal.returns-in_ok-root-in-Grown
returns-in_ok-root-in-Grown g c u reached =
    let p = g.C.Chunks.contents c.args.chunks.now in
    let may = g.C.Chunks.places c.args.chunks.now in
    let k = stamp_of c.args.at in
    let key = c.args.down.now.key.now in
    let rows = rows_or (chunk_rows p k) in
    let n = c.in-Grown.node.value in
    let half = c.into_half.result in
    let h = subst (λ w. IsChunkEnd p may 1 true k (chunk_depth p k) rows key u w c.args.laying) c.in-Grown.is
    reached in
    let built = subst (IsBuilt p may 1 k h.3.0 rows key h.0 n) (sym c.into_half.ensures) h.3.3 in
    let root = c.in_ok-root-in-Grown.root in
    let made = c.made-in-Grown.ensures in
    subst (λ w. IsUpdated p p may k key w c.made-in-Grown.result) (sym h.1) (
      made.0,
      subst (IsPutIn p p may k key h.0) (sym (made.1 ∙ ap (λ w. Some w) c.new.ensures)) (
        h.3.0,
        h.3.1,
        made_root p may k h.3.0 key h.0 rows n root half h.2 built c.in_ok-root-in-Grown.ensures,
      ),
    )
