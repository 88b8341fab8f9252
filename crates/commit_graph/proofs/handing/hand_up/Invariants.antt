use Rattle.std.proofs.Common.{List, ◌++◌, reverse, vec_len}
use Rattle.group_history.specs.declared.mutations.MutationFields.{MutationFields as Mutation}
use Rattle.map_chunks.specs.Places.{Grows}
use Rattle.commit_graph.specs.Inside.Handing.{AddUp}
use Rattle.commit_graph.proofs.Rising.{IsRise}
use Rattle.commit_graph.proofs.handing.hand_up.Given as goal

abbrev pub invariant-loop-at : goal.invariant-loop-at
invariant-loop-at g l =
    let m = g.N.Chunks.contents in let p = g.N.Chunks.places in
    ((ms : List Mutation) × AddUp (p l.nodes) (m l.nodes) (reverse l.chain.items) ms)
    × Grows m p l.initial.nodes l.nodes
    × ((xs ms : List Mutation) → g.T.TakesMutations.has l.initial.taker xs
    → AddUp (p l.initial.nodes) (m l.initial.nodes) (reverse l.initial.chain.items) ms
    → IsRise (g.T.TakesMutations.has l.taker) (p l.nodes) (m l.nodes) l.chain.items (xs ++ ms))

abbrev pub decreases-loop-at : goal.decreases-loop-at
decreases-loop-at g l = vec_len l.chain
