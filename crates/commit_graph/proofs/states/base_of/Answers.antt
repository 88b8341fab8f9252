use Rattle.std.proofs.Common.{subst}
use Rattle.std.proofs.lemmas.Result.{IfOk-at_ok}
use Rattle.group_history.specs.Refs.{stamp_of}
use Rattle.commit_graph.specs.Inside.Chains.{HasBase}
use Rattle.commit_graph.proofs.Chained.{shown_snapshot, base_whole}
use Rattle.commit_graph.proofs.Rooted.{root_may, base_named}
use Rattle.map_chunks.proofs.KeptLemmas.{grows_on}
use Rattle.commit_graph.proofs.states.base_of.Goals as goal

pub returns-clause-state : goal.returns-clause-state
returns-clause-state g c v h =
    let m = g.N.Chunks.contents in let k = c.in_ok-look_at_commit.ensures.told in
    base_whole (m c.snapshot_of.new.nodes) (m c.look_at_commit.new.nodes)
    (stamp_of c.in_ok-snapshot.snapshot) k.0.now v.state c.in_ok-base.base
    (c.in_ok-snapshot.ensures.state v h) c.look_at_commit.ensures.grown.0 k.1.1
    (IfOk-at_ok (HasBase k.0.now) c.in_ok-base.was k.2)

pub returns-clause-place : goal.returns-clause-place
returns-clause-place g c =
    let k = c.in_ok-look_at_commit.ensures.told in
    subst (g.N.Chunks.places c.look_at_commit.new.nodes) (base_named k.0.now c.in_ok-base.base
    (IfOk-at_ok (HasBase k.0.now) c.in_ok-base.was k.2))
    (root_may (g.N.Chunks.places c.look_at_commit.new.nodes) (g.N.Chunks.contents c.look_at_commit.new.nodes)
    (stamp_of c.in_ok-snapshot.snapshot) k.0.now k.1)

pub returns-clause-grown : goal.returns-clause-grown
returns-clause-grown g c =
    grows_on g.N.Chunks.contents g.N.Chunks.places _ _ _
    c.snapshot_of.ensures.grown c.look_at_commit.ensures.grown

pub returns-in_err-base-clause-grown : goal.returns-in_err-base-clause-grown
returns-in_err-base-clause-grown g c =
    grows_on g.N.Chunks.contents g.N.Chunks.places _ _ _
    c.snapshot_of.ensures.grown c.look_at_commit.ensures.grown

pub look_at_commit-requires-clause-callable : goal.look_at_commit-requires-clause-callable
look_at_commit-requires-clause-callable g c commit lies =
    shown_snapshot (g.N.Chunks.contents c.snapshot_of.new.nodes) (stamp_of c.in_ok-snapshot.snapshot) commit.now
    c.in_ok-snapshot.ensures.lies lies
