use Rattle.group_history.specs.Refs.{stamp_of}
use Rattle.commit_graph.proofs.Chained.{some_version}
use Rattle.commit_graph.proofs.Rooted.{snapshot_reached}
use Rattle.commit_graph.proofs.Snapshots.{begins}
use Rattle.commit_graph.proofs.Spelled.{version-grown}
use Rattle.commit_graph.proofs.states.snapshot_of.Goals as goal

pub returns-clause-lies : goal.returns-clause-lies
returns-clause-lies g c =
    let m = g.N.Chunks.contents in
    let v = some_version (m c.args.nodes.now) (stamp_of c.args.head) c.requires.known in
    let now = version-grown (m c.args.nodes.now) (m c.top_of.new.nodes) (stamp_of c.args.head) v.0
    c.top_of.ensures.grown.0 v.1 in
    (begins (m c.top_of.new.nodes) (stamp_of c.args.head) v.0 _ now c.in_ok-top.ensures.snapshot).lies

pub returns-clause-reached : goal.returns-clause-reached
returns-clause-reached g c =
    let m = g.N.Chunks.contents in
    let v = some_version (m c.args.nodes.now) (stamp_of c.args.head) c.requires.known in
    let now = version-grown (m c.args.nodes.now) (m c.top_of.new.nodes) (stamp_of c.args.head) v.0
    c.top_of.ensures.grown.0 v.1 in
    snapshot_reached (m c.top_of.new.nodes) (stamp_of c.args.head) v.0 _ now c.in_ok-top.ensures.snapshot

pub returns-clause-state : goal.returns-clause-state
returns-clause-state g c v h =
    let m = g.N.Chunks.contents in
    let now = version-grown (m c.args.nodes.now) (m c.top_of.new.nodes) (stamp_of c.args.head) v
    c.top_of.ensures.grown.0 h in
    (begins (m c.top_of.new.nodes) (stamp_of c.args.head) v _ now c.in_ok-top.ensures.snapshot).base
