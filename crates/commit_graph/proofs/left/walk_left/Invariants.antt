use Rattle.std.proofs.Common.{◌≡◌, List}
use Rattle.group_history.specs.declared.mutations.MutationFields.{MutationFields as Mutation}
use Rattle.group_history.specs.Pulling.{left_pending}
use Rattle.group_history.specs.Refs.{stamp_of}
use Rattle.map_chunks.specs.Places.{Grows}
use Rattle.commit_graph.specs.Inside.Left.{IsAsked}
use Rattle.commit_graph.proofs.Chained.{IsDescent}
use Rattle.commit_graph.proofs.left.walk_left.Given as goal

abbrev pub invariant-loop-left : goal.invariant-loop-left
invariant-loop-left g l = ((met : List Mutation)
    × IsDescent (g.N.Chunks.contents l.initial.nodes) (g.N.Chunks.contents l.nodes) (stamp_of l.initial.at)
    (stamp_of l.at) met
    × (l.left.mutations.items ≡ left_pending l.ids met))
    × IsAsked l.ids l.left.asked
    × g.N.Chunks.places l.nodes l.at × Grows g.N.Chunks.contents g.N.Chunks.places l.initial.nodes l.nodes

abbrev pub decreases-loop-left : goal.decreases-loop-left
decreases-loop-left g l = stamp_of l.at
