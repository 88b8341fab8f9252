use Rattle.group_history.specs.Refs.{stamp_of}
use Rattle.map_chunks.specs.Places.{Grows}
use Rattle.commit_graph.proofs.Narrowing.{IsNarrowed}
use Rattle.commit_graph.proofs.gaps.gap_below.Given as goal

abbrev pub invariant-loop-chunks : goal.invariant-loop-chunks
invariant-loop-chunks g l = IsNarrowed (g.C.Chunks.contents l.initial.chunks) (g.C.Chunks.contents l.chunks)
    (stamp_of l.initial.at) (stamp_of l.at) l.low l.limit
    × g.C.Chunks.places l.chunks l.at × Grows g.C.Chunks.contents g.C.Chunks.places l.initial.chunks l.chunks

abbrev pub decreases-loop-chunks : goal.decreases-loop-chunks
decreases-loop-chunks g l = stamp_of l.at
