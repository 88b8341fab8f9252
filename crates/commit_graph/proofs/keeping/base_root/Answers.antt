use Rattle.std.proofs.Common.{Option, refl, sym, subst}
use Rattle.std.specs.Prelude.{IsSome}
use Rattle.group_history.specs.declared.refs.Ref.{Ref}
use Rattle.group_history.specs.Map.{Entries}
use Rattle.group_history.specs.Refs.{stamp_of}
use Rattle.group_history.specs.Spelling.{map_at}
use Rattle.commit_graph.specs.Reach.{Reaches}
use Rattle.commit_graph.proofs.Chained.{some_version, root_read}
use Rattle.commit_graph.proofs.Reached.{reaches_stays}
use Rattle.commit_graph.proofs.Rooted.{root_reached, root_may}
use Rattle.map_chunks.proofs.KeptLemmas.{grows_on}
use Rattle.commit_graph.proofs.keeping.base_root.Goals as goal

pub look_at_commit-requires-clause-known : goal.look_at_commit-requires-clause-known
look_at_commit-requires-clause-known g c = c.in_ok-snapshot.ensures.lies.0

pub returns-clause-map : goal.returns-clause-map
returns-clause-map g c =
    let m = g.N.Chunks.contents in let k = c.in_ok-root.ensures.told in
    let v = some_version (m c.snapshot_of.new.nodes)
    (stamp_of c.in_ok-snapshot.snapshot) c.in_ok-snapshot.ensures.lies.0 in
    subst (λ (r : Ref). IsSome (map_at (m c.look_at_commit.new.nodes) (stamp_of r))) (sym k.2)
    (subst (λ (o : Option Entries). IsSome o)
    (sym (root_read (m c.snapshot_of.new.nodes) (m c.look_at_commit.new.nodes)
    (stamp_of c.in_ok-snapshot.snapshot) k.0.now v.0 v.1 c.look_at_commit.ensures.grown.0 k.1.1)) refl)

pub returns-clause-reached : goal.returns-clause-reached
returns-clause-reached g c =
    let m = g.N.Chunks.contents in let k = c.in_ok-root.ensures.told in
    let r = reaches_stays (m c.snapshot_of.new.nodes) (m c.look_at_commit.new.nodes) (stamp_of c.args.head)
    (stamp_of c.in_ok-snapshot.snapshot) c.look_at_commit.ensures.grown.0 c.in_ok-snapshot.ensures.reached in
    subst (λ (r : Ref). Reaches (m c.look_at_commit.new.nodes) (stamp_of c.args.head) (stamp_of r)) (sym k.2)
    (root_reached (m c.look_at_commit.new.nodes) (stamp_of c.args.head) (stamp_of c.in_ok-snapshot.snapshot) k.0.now r
    k.1.1)

pub returns-clause-place : goal.returns-clause-place
returns-clause-place g c =
    let k = c.in_ok-root.ensures.told in
    subst (g.N.Chunks.places c.look_at_commit.new.nodes) (sym k.2)
    (root_may (g.N.Chunks.places c.look_at_commit.new.nodes) (g.N.Chunks.contents c.look_at_commit.new.nodes)
    (stamp_of c.in_ok-snapshot.snapshot) k.0.now k.1)

pub returns-clause-grown : goal.returns-clause-grown
returns-clause-grown g c =
    grows_on g.N.Chunks.contents g.N.Chunks.places _ _ _ c.snapshot_of.ensures.grown c.look_at_commit.ensures.grown

pub returns-in_err-root-clause-grown : goal.returns-in_err-root-clause-grown
returns-in_err-root-clause-grown g c =
    grows_on g.N.Chunks.contents g.N.Chunks.places _ _ _ c.snapshot_of.ensures.grown c.look_at_commit.ensures.grown
