use Rattle.group_history.specs.Refs.{stamp_of}
use Rattle.group_history.proofs.Lists.{prefix_trans}
use Rattle.commit_graph.proofs.Spelled.{version-grown}
use Rattle.commit_graph.proofs.Chained.{version_stays}
use Rattle.map_chunks.proofs.KeptLemmas.{grows_on}
use Rattle.commit_graph.proofs.states.state_of.Goals as goal

pub walk-requires-clause-known : goal.walk-requires-clause-known
walk-requires-clause-known g c = let m = g.N.Chunks.contents in
    version_stays (m c.args.nodes.now) (m c.closed_of.new.nodes)
    (stamp_of c.args.head) c.closed_of.ensures.grown.0 c.requires.known

pub base_of-requires-clause-known : goal.base_of-requires-clause-known
base_of-requires-clause-known g c =
    let m = g.N.Chunks.contents in
    version_stays (m c.args.nodes.now) (m c.walk.new.nodes) (stamp_of c.args.head)
    (prefix_trans (m c.args.nodes.now) (m c.closed_of.new.nodes)
    (m c.walk.new.nodes) c.closed_of.ensures.grown.0 c.walk.ensures.grown.0) c.requires.known

pub returns-clause-cookie : goal.returns-clause-cookie
returns-clause-cookie g c v h =
    let m = g.N.Chunks.contents in
    let pre = prefix_trans (m c.args.nodes.now) (m c.closed_of.new.nodes)
    (m c.walk.new.nodes) c.closed_of.ensures.grown.0 c.walk.ensures.grown.0 in
    (c.in_ok-cookie.ensures.state v (version-grown (m c.args.nodes.now) (m c.walk.new.nodes)
    (stamp_of c.args.head) v pre h)).0

pub returns-clause-confirmed : goal.returns-clause-confirmed
returns-clause-confirmed g c v h =
    let m = g.N.Chunks.contents in
    let pre = prefix_trans (m c.args.nodes.now) (m c.closed_of.new.nodes)
    (m c.walk.new.nodes) c.closed_of.ensures.grown.0 c.walk.ensures.grown.0 in
    (c.in_ok-cookie.ensures.state v (version-grown (m c.args.nodes.now) (m c.walk.new.nodes)
    (stamp_of c.args.head) v pre h)).1

pub returns-clause-pulled : goal.returns-clause-pulled
returns-clause-pulled g c v h =
    let m = g.N.Chunks.contents in
    let pre = prefix_trans (m c.args.nodes.now) (m c.closed_of.new.nodes)
    (m c.walk.new.nodes) c.closed_of.ensures.grown.0 c.walk.ensures.grown.0 in
    (c.in_ok-cookie.ensures.state v (version-grown (m c.args.nodes.now) (m c.walk.new.nodes)
    (stamp_of c.args.head) v pre h)).2

pub returns-clause-pending : goal.returns-clause-pending
returns-clause-pending g c v h =
    let m = g.N.Chunks.contents in
    c.in_ok-pending.ensures.pending v (version-grown (m c.args.nodes.now) (m c.closed_of.new.nodes)
    (stamp_of c.args.head) v c.closed_of.ensures.grown.0 h)

pub walk-requires-clause-place : goal.walk-requires-clause-place
walk-requires-clause-place g c = c.closed_of.ensures.grown.1 c.args.head c.requires.place

pub base_of-requires-clause-place : goal.base_of-requires-clause-place
base_of-requires-clause-place g c = c.walk.ensures.grown.1 c.args.head
    (c.closed_of.ensures.grown.1 c.args.head c.requires.place)

pub returns-clause-grown : goal.returns-clause-grown
returns-clause-grown g c =
    grows_on g.N.Chunks.contents g.N.Chunks.places _ _ _
    (grows_on g.N.Chunks.contents g.N.Chunks.places _ _ _ c.closed_of.ensures.grown c.walk.ensures.grown)
    c.base_of.ensures.grown

pub returns-in_err-pending-clause-grown : goal.returns-in_err-pending-clause-grown
returns-in_err-pending-clause-grown g c =
    grows_on g.N.Chunks.contents g.N.Chunks.places _ _ _
    c.closed_of.ensures.grown c.walk.ensures.grown

pub returns-in_err-cookie-clause-grown : goal.returns-in_err-cookie-clause-grown
returns-in_err-cookie-clause-grown g c =
    grows_on g.N.Chunks.contents g.N.Chunks.places _ _ _
    (grows_on g.N.Chunks.contents g.N.Chunks.places _ _ _ c.closed_of.ensures.grown c.walk.ensures.grown)
    c.base_of.ensures.grown
