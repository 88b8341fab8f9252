use Rattle.group_history.specs.Refs.{stamp_of}
use Rattle.map_chunks.specs.Places.{Grows}
use Rattle.commit_graph.proofs.Chained.{IsDescent}
use Rattle.commit_graph.proofs.states.walk.Given as goal

abbrev pub invariant-loop-pending : goal.invariant-loop-pending
invariant-loop-pending g l = IsDescent (g.N.Chunks.contents l.initial.nodes) (g.N.Chunks.contents l.nodes)
    (stamp_of l.initial.at) (stamp_of l.at) l.pending.items
    × g.N.Chunks.places l.nodes l.at × Grows g.N.Chunks.contents g.N.Chunks.places l.initial.nodes l.nodes

abbrev pub decreases-loop-pending : goal.decreases-loop-pending
decreases-loop-pending g l = stamp_of l.at
