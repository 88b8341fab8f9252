use Rattle.std.proofs.Common.{◌≡◌, Some, ap, sym, subst, ◌∙◌}
use Rattle.group_history.specs.Refs.{stamp_of}
use Rattle.group_history.specs.Spelling.{snapshot_at, map_at}
use Rattle.commit_graph.specs.declared.chains.Top.{Top}
use Rattle.commit_graph.proofs.Chained.{some_version, top_found}
use Rattle.commit_graph.proofs.Rooted.{root_may, snapshot_may}
use Rattle.commit_graph.proofs.states.top_of.Goals as goal

pub returns-clause-root : goal.returns-clause-root
returns-clause-root g c v h =
    let m = g.N.Chunks.contents in let k = c.in_ok-top.ensures.told in
    subst (λ (t : Top). map_at (m c.look_at_commit.new.nodes) (stamp_of t.root) ≡ Some v.read) (sym k.2.1)
    (top_found (m c.args.nodes.now) (m c.look_at_commit.new.nodes) c.args.head k.0.now v h
    c.look_at_commit.ensures.grown.0 k.1.1).1

pub returns-clause-snapshot : goal.returns-clause-snapshot
returns-clause-snapshot g c =
    let m = g.N.Chunks.contents in let k = c.in_ok-top.ensures.told in
    let v = some_version (m c.args.nodes.now) (stamp_of c.args.head) c.requires.known in
    subst (λ (t : Top). snapshot_at (m c.look_at_commit.new.nodes) (stamp_of c.args.head)
    ≡ Some (stamp_of t.snapshot)) (sym k.2.1)
    (top_found (m c.args.nodes.now) (m c.look_at_commit.new.nodes) c.args.head k.0.now v.0 v.1
    c.look_at_commit.ensures.grown.0 k.1.1).2

pub returns-clause-closed : goal.returns-clause-closed
returns-clause-closed g c v h =
    let m = g.N.Chunks.contents in let k = c.in_ok-top.ensures.told in
    ap (λ (t : Top). t.closed) k.2.1 ∙ (top_found (m c.args.nodes.now)
    (m c.look_at_commit.new.nodes) c.args.head k.0.now v h c.look_at_commit.ensures.grown.0 k.1.1).0

pub returns-clause-places : goal.returns-clause-places
returns-clause-places g c =
    let may = g.N.Chunks.places c.look_at_commit.new.nodes in let k = c.in_ok-top.ensures.told in
    subst (λ (t : Top). may t.root × may t.snapshot) (sym k.2.1) (
      root_may may (g.N.Chunks.contents c.look_at_commit.new.nodes) (stamp_of c.args.head) k.0.now k.1,
      snapshot_may (g.N.Chunks.places c.look_at_commit.new.nodes) (g.N.Chunks.contents c.look_at_commit.new.nodes)
          c.args.head
          (stamp_of c.args.head) k.0.now (c.look_at_commit.ensures.grown.1 c.args.head c.requires.place) k.1,
    )
