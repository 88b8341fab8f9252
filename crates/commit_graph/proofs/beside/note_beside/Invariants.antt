use Rattle.group_history.specs.Refs.{stamp_of}
use Rattle.map_chunks.specs.Places.{Grows}
use Rattle.commit_graph.specs.Inside.Reach.{Notes}
use Rattle.commit_graph.specs.Reach.{Reaches}
use Rattle.commit_graph.proofs.Noting.{IsBelow}
use Rattle.commit_graph.proofs.beside.note_beside.Given as goal

abbrev pub invariant-loop-at : goal.invariant-loop-at
invariant-loop-at g l = record {
  below : IsBelow (g.C.Chunks.contents l.chunks) (stamp_of l.fn.root) (stamp_of l.at);
  place : g.C.Chunks.places l.chunks l.at;
  grown : Grows g.C.Chunks.contents g.C.Chunks.places l.initial.chunks l.chunks;
  noted : Notes (Reaches (g.C.Chunks.contents l.chunks) (stamp_of l.fn.root)) l.initial.frontier l.frontier;
}

abbrev pub decreases-loop-at : goal.decreases-loop-at
decreases-loop-at g l = stamp_of l.at
