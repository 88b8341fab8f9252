use Rattle.group_history.specs.Refs.{stamp_of}
use Rattle.commit_graph.proofs.Rooted.{map_some_stays}
use Rattle.commit_graph.proofs.looks.note_at.Goals as goal

pub note_beside-requires-clause-root : goal.note_beside-requires-clause-root
note_beside-requires-clause-root g c = let m = g.C.Chunks.contents in
    map_some_stays (m c.args.chunks.now) (m c.look_at.new.chunks) (stamp_of c.args.part.root) c.look_at.ensures.grown.0
    c.requires.root
