use Rattle.std.proofs.Common.{◌∙◌, ap, sym, subst, inr}
use Rattle.std.specs.List.{Contains}
use Rattle.group_history.specs.declared.nodes.Chunk.{Chunk}
use Rattle.group_history.specs.declared.refs.Ref.{Ref}
use Rattle.group_history.specs.Refs.{stamp_of}
use Rattle.group_history.specs.Spelling.{rows_at}
use Rattle.map_chunks.specs.Places.{places_of}
use Rattle.map_nodes.specs.Inside.Copies.{MayBeDeep, IsCopy, chunk_pieces}
use Rattle.map_chunks.specs.Shown.{shown}
use Rattle.map_chunks.specs.Wide.{IsWideAt}
use Rattle.map_nodes.proofs.CopyLemmas.{copyable}
use Rattle.map_nodes.proofs.NamedLemmas.{copy-places}
use Rattle.map_chunks.proofs.OpenLemmas.{rows-kept}
use Rattle.map_chunks.proofs.Shelves.{some_of}
use mathlib.Core.List.{IsPrefix}
use Rattle.map_nodes.proofs.KeptLevels.{copy_levels}
use Rattle.map_nodes.proofs.WideLemmas.{wide-copy}
use Rattle.map_nodes.proofs.nodes.OwnNode.copied.Goals as goal

pub of_chunk-node-requires : goal.of_chunk-node-requires
of_chunk-node-requires g c =
    let s = some_of (rows_at (g.C.Chunks.contents c.args.chunks.now) c.args.depth (stamp_of c.args.at))
    c.requires.known in
    let r = rows-kept (g.C.Chunks.contents c.args.chunks.now) (g.C.Chunks.contents c.show.new.self) c.args.depth
    (stamp_of c.args.at) s.0 c.show.ensures.grown.0 s.1 in
    let k = copyable (g.C.Chunks.contents c.show.new.self) c.args.depth
    (stamp_of c.args.at) s.0 _ r c.in_ok-held.ensures.content in
    subst (λ (ch : Chunk Ref). MayBeDeep c.args.depth ch) (sym c.chunk.ensures) k.deep

pub returns-clause-rows : goal.returns-clause-rows
returns-clause-rows g c =
    let s = some_of (rows_at (g.C.Chunks.contents c.args.chunks.now) c.args.depth (stamp_of c.args.at))
    c.requires.known in
    let r = rows-kept (g.C.Chunks.contents c.args.chunks.now) (g.C.Chunks.contents c.show.new.self) c.args.depth
    (stamp_of c.args.at) s.0 c.show.ensures.grown.0 s.1 in
    let k = copyable (g.C.Chunks.contents c.show.new.self) c.args.depth
    (stamp_of c.args.at) s.0 _ r c.in_ok-held.ensures.content in
    ap (λ p. shown p c.in_ok-node.field-0.pieces) (ap g.C.Chunks.contents c.leave.ensures)
    ∙ ap (shown (g.C.Chunks.contents c.show.new.self))
    (c.in_ok-node.ensures.1 ∙ ap (chunk_pieces c.args.depth) c.chunk.ensures)
    ∙ k.rows_are ∙ sym s.1

pub returns-clause-wide : goal.returns-clause-wide
returns-clause-wide g c w =
    let p = g.C.Chunks.contents c.show.new.self in
    let s = some_of (rows_at (g.C.Chunks.contents c.args.chunks.now) c.args.depth (stamp_of c.args.at))
    c.requires.known in
    let r = rows-kept (g.C.Chunks.contents c.args.chunks.now) p c.args.depth
    (stamp_of c.args.at) s.0 c.show.ensures.grown.0 s.1 in
    let k = copyable p c.args.depth (stamp_of c.args.at) s.0 _ r c.in_ok-held.ensures.content in
    let is = subst (λ (ch : Chunk Ref). IsCopy c.args.depth ch c.in_ok-node.field-0) c.chunk.ensures
    c.in_ok-node.ensures in
    wide-copy p (stamp_of c.args.at) c.args.depth _ c.in_ok-node.field-0 c.in_ok-held.ensures.content k.deep is.0 is.2
    (subst (λ q. IsWideAt q (stamp_of c.args.at)) (ap g.C.Chunks.contents c.leave.ensures) w)

pub returns-clause-places : goal.returns-clause-places
returns-clause-places g c at h =
    inr (subst (λ ns. g.C.Chunks.places ns at) (sym c.leave.ensures) (c.in_ok-held.ensures.children at
    (copy-places c.args.depth (g.C.Held.ShowsChunk.shown c.in_ok-held.held) at
    (subst (λ ps. Contains (places_of ps) at)
    (c.in_ok-node.ensures.1 ∙ ap (chunk_pieces c.args.depth) c.chunk.ensures) h))))

pub returns-clause-levels : goal.returns-clause-levels
returns-clause-levels g c later pre =
    let p = g.C.Chunks.contents c.show.new.self in
    let k = stamp_of c.args.at in
    let s = some_of (rows_at (g.C.Chunks.contents c.args.chunks.now) c.args.depth k) c.requires.known in
    let r = rows-kept (g.C.Chunks.contents c.args.chunks.now) p c.args.depth k s.0 c.show.ensures.grown.0 s.1 in
    let y = copyable p c.args.depth k s.0 _ r c.in_ok-held.ensures.content in
    let is = subst (λ (ch : Chunk Ref). IsCopy c.args.depth ch c.in_ok-node.field-0) c.chunk.ensures
    c.in_ok-node.ensures in
    copy_levels p k c.args.depth _ c.in_ok-node.field-0 y.deep is.3 c.in_ok-held.ensures.content later
    (subst (λ q. IsPrefix q later) (ap g.C.Chunks.contents c.leave.ensures) pre)
