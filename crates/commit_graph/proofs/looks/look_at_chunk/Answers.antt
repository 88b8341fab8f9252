use Rattle.std.proofs.Common.{◌≡◌, ℕ, Some, drop, take, slice_get, ap, sym, ◌∙◌, rules}
use Rattle.group_history.specs.declared.nodes.Node.{Node}
use Rattle.group_history.specs.declared.nodes.Node.TheVariants as node
use Rattle.group_history.specs.Naming.{chunk_content}
use Rattle.group_history.specs.Refs.{stamp_of}
use Rattle.map_chunks.proofs.KeptLemmas.{grows_on}
use Rattle.commit_graph.specs.Inside.Reach.{found_in}
use Rattle.commit_graph.specs.Reach.{Reaches}
use Rattle.commit_graph.proofs.Chained.{get_stays}
use Rattle.commit_graph.proofs.Mixing.{mixture}
use Rattle.commit_graph.proofs.Noting.{noted_first, notes_grown}
use Rattle.commit_graph.proofs.Rooted.{map_some_stays, segment_some_stays}
use Rattle.commit_graph.proofs.looks.look_at_chunk.Goals as goal

pub note_at-requires-clause-root : goal.note_at-requires-clause-root
note_at-requires-clause-root g c = let m = g.C.Chunks.contents in
    map_some_stays (m c.args.chunks.now) (m c.look_at.new.chunks) (stamp_of c.args.part.root) c.look_at.ensures.grown.0
    c.requires.root

pub note_at-requires-clause-chunk : goal.note_at-requires-clause-chunk
note_at-requires-clause-chunk g c = let m = g.C.Chunks.contents in
    segment_some_stays (m c.args.chunks.now) (m c.look_at.new.chunks) (stamp_of c.args.at) c.look_at.ensures.grown.0
    c.requires.chunk

pub look_at-requires-2-clause-known : goal.look_at-requires-2-clause-known
look_at-requires-2-clause-known g c =
    let m = g.C.Chunks.contents in
    let on = grows_on m g.C.Chunks.places c.args.chunks.now c.look_at.new.chunks c.note_at.new.chunks
    c.look_at.ensures.grown c.note_at.ensures.grown in
    segment_some_stays (m c.args.chunks.now) (m c.note_at.new.chunks) (stamp_of c.args.at) on.0 c.requires.chunk

pub returns-in_err-look_at-2-clause-grown : goal.returns-in_err-look_at-2-clause-grown
returns-in_err-look_at-2-clause-grown g c =
    grows_on g.C.Chunks.contents g.C.Chunks.places _ _ _ c.look_at.ensures.grown
    (grows_on g.C.Chunks.contents g.C.Chunks.places _ _ _ c.note_at.ensures.grown c.look_at-2.ensures.grown)

pub returns-in_err-branch-clause-grown : goal.returns-in_err-branch-clause-grown
returns-in_err-branch-clause-grown g c =
    grows_on g.C.Chunks.contents g.C.Chunks.places _ _ _ c.look_at.ensures.grown
    (grows_on g.C.Chunks.contents g.C.Chunks.places _ _ _ c.note_at.ensures.grown c.look_at-2.ensures.grown)

pub returns-clause-grown : goal.returns-clause-grown
returns-clause-grown g c =
    grows_on g.C.Chunks.contents g.C.Chunks.places _ _ _ c.look_at.ensures.grown
    (grows_on g.C.Chunks.contents g.C.Chunks.places _ _ _ c.note_at.ensures.grown c.look_at-2.ensures.grown)

pub returns-clause-added : goal.returns-clause-added
returns-clause-added g c =
    let m = g.C.Chunks.contents in let last = m c.look_at-2.new.chunks in
    let one = c.in_ok-look_at.ensures.told in let two = c.in_ok-look_at-2.ensures.told in
    let root = stamp_of c.args.part.root in let at = stamp_of c.args.at in let n = c.in-Some.from in
    let grown = grows_on m g.C.Chunks.places c.look_at.new.chunks c.note_at.new.chunks c.look_at-2.new.chunks
    c.note_at.ensures.grown c.look_at-2.ensures.grown in
    let stays : slice_get last at ≡ Some (chunk_content one.0.now) =
    get_stays (m c.look_at.new.chunks) last at (chunk_content one.0.now) grown.0 one.1.1 in
    let same : chunk_content one.0.now ≡ chunk_content two.0.now =
    (let e : Some (chunk_content one.0.now) ≡ Some (chunk_content two.0.now) = sym stays ∙ two.1.1 in cc e) in
    let mix = mixture (g.C.Chunks.places c.look_at-2.new.chunks) n one.0.now two.0.now same in
    let kept = notes_grown (m c.note_at.new.chunks) last root _ c.note_at.new.frontier
    c.look_at-2.ensures.grown.0 c.in_ok-note_at.ensures.noted in
    let all = noted_first (Reaches last root) c.args.frontier.now _ c.note_at.new.frontier
    (c.look_at-2.new.tell.0.now)
    (take n (found_in (node.Chunk one.0.now))) (drop n (found_in (node.Chunk two.0.now))) (found_in (node.Chunk mix.0))
    mix.1.found (search rules) kept (search rules) in (
      mix.0,
      all.0,
      (
        mix.1.places (λ r h. grown.1 r (one.1.0 r h)) two.1.0,
        two.1.1 ∙ ap (λ (w : Node ℕ). Some w) (sym mix.1.content),
      ),
      all.1,
      search (all.2, rules),
    )
