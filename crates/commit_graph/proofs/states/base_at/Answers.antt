use Rattle.std.proofs.Common.{subst}
use Rattle.std.proofs.lemmas.Result.{IfOk-at_ok}
use Rattle.group_history.specs.Refs.{stamp_of}
use Rattle.commit_graph.specs.Inside.Chains.{HasBase}
use Rattle.commit_graph.proofs.Chained.{shown_snapshot, base_whole, some_version}
use Rattle.commit_graph.proofs.Rooted.{root_may, base_named}
use Rattle.commit_graph.proofs.Snapshots.{begins}
use Rattle.commit_graph.proofs.states.base_at.Goals as goal

pub look_at_commit-requires-clause-known : goal.look_at_commit-requires-clause-known
look_at_commit-requires-clause-known g c =
    let m = g.N.Chunks.contents c.args.nodes.now in let h = c.requires.snapshot in let v = some_version m h.0 h.1 in
    (begins m h.0 v.0 (stamp_of c.args.snapshot) v.1 h.2).lies.0

pub look_at_commit-requires-clause-callable : goal.look_at_commit-requires-clause-callable
look_at_commit-requires-clause-callable g c commit lies =
    let m = g.N.Chunks.contents c.args.nodes.now in let h = c.requires.snapshot in let v = some_version m h.0 h.1 in
    shown_snapshot m (stamp_of c.args.snapshot) commit.now (begins m h.0 v.0 (stamp_of c.args.snapshot) v.1 h.2).lies
    lies

pub returns-clause-state : goal.returns-clause-state
returns-clause-state g c k v h s =
    let m = g.N.Chunks.contents in let e = c.in_ok-look_at_commit.ensures.told in
    base_whole (m c.args.nodes.now) (m c.look_at_commit.new.nodes) (stamp_of c.args.snapshot) e.0.now v.state
    c.in_ok-base.base (begins (m c.args.nodes.now) k v (stamp_of c.args.snapshot) h s).base
    c.look_at_commit.ensures.grown.0 e.1.1 (IfOk-at_ok (HasBase e.0.now) c.in_ok-base.was e.2)

pub returns-clause-place : goal.returns-clause-place
returns-clause-place g c =
    let k = c.in_ok-look_at_commit.ensures.told in
    subst (g.N.Chunks.places c.look_at_commit.new.nodes) (base_named k.0.now c.in_ok-base.base
    (IfOk-at_ok (HasBase k.0.now) c.in_ok-base.was k.2))
    (root_may (g.N.Chunks.places c.look_at_commit.new.nodes) (g.N.Chunks.contents c.look_at_commit.new.nodes)
    (stamp_of c.args.snapshot) k.0.now k.1)
