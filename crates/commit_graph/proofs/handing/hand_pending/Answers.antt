use Rattle.group_history.specs.Refs.{stamp_of}
use Rattle.commit_graph.proofs.Chained.{some_version}
use Rattle.map_chunks.proofs.KeptLemmas.{grows_on}
use Rattle.commit_graph.proofs.handing.hand_pending.Goals as goal

pub hand_up-requires : goal.hand_up-requires
hand_up-requires g c = let v = some_version (g.N.Chunks.contents c.args.nodes.now) (stamp_of c.args.head)
    c.requires.known in
    record { chain = (v.0.state.pending, c.in_ok-chain.ensures.chain v.0 v.1) }

pub returns-clause-grown : goal.returns-clause-grown
returns-clause-grown g c =
    grows_on g.N.Chunks.contents g.N.Chunks.places _ _ _ c.chain_of.ensures.grown c.hand_up.ensures.grown

pub returns-clause-pending : goal.returns-clause-pending
returns-clause-pending g c v xs is has =
    c.hand_up.ensures.handed xs v.state.pending has (c.in_ok-chain.ensures.chain v is)
