use Rattle.group_history.specs.Refs.{stamp_of}
use Rattle.map_chunks.specs.Places.{Grows}
use Rattle.commit_graph.proofs.Rising.{IsStair}
use Rattle.commit_graph.proofs.handing.chain_of.Given as goal

abbrev pub invariant-loop-chain : goal.invariant-loop-chain
invariant-loop-chain g l = IsStair (g.N.Chunks.places l.nodes) (g.N.Chunks.contents l.initial.nodes)
    (g.N.Chunks.contents l.nodes) (stamp_of l.initial.at) l.at l.chain.items
    × g.N.Chunks.places l.nodes l.at × Grows g.N.Chunks.contents g.N.Chunks.places l.initial.nodes l.nodes

abbrev pub decreases-loop-chain : goal.decreases-loop-chain
decreases-loop-chain g l = stamp_of l.at
