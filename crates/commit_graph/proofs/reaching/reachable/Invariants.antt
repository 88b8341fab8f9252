use Rattle.group_history.specs.Refs.{stamp_of}
use Rattle.commit_graph.proofs.Listing.{IsListing, bound}
use Rattle.commit_graph.proofs.reaching.reachable.Given as goal

abbrev pub invariant-loop-at : goal.invariant-loop-at
invariant-loop-at g l = IsListing (g.N.Chunks.places l.fn.nodes) (g.N.Chunks.places l.nodes)
    (g.N.Chunks.contents l.fn.nodes) (g.N.Chunks.contents l.nodes) l.fn.head
    (stamp_of l.part.root) l.listed.items l.frontier

abbrev pub decreases-loop-at : goal.decreases-loop-at
decreases-loop-at g l = bound l.frontier.ahead
