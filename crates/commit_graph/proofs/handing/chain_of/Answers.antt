use Rattle.std.proofs.Common.{List, sym, subst, ◌∙◌}
use Rattle.group_history.specs.declared.refs.Ref.{Ref}
use Rattle.group_history.specs.Refs.{stamp_of}
use Rattle.group_history.proofs.Lists.{prefix_self}
use Rattle.map_chunks.proofs.KeptLemmas.{IfAt, grows_on}
use Rattle.commit_graph.proofs.Rooted.{basis_may}
use Rattle.commit_graph.proofs.Chained.{none_from}
use Rattle.commit_graph.proofs.Rising.{IsStair, stair_begins, stair_step, stair_ends}
use Rattle.commit_graph.proofs.handing.chain_of.Goals as goal

pub loop-chain-init : goal.loop-chain-init
loop-chain-init g c =
    let m = g.N.Chunks.contents c.args.nodes.now in let p = g.N.Chunks.places c.args.nodes.now in (
      subst (λ (w : List Ref). IsStair p m m (stamp_of c.args.head) c.args.head w) (sym c.new-chain.ensures.items)
          (stair_begins p m c.args.head c.requires.known (prefix_self m)),
      c.requires.place,
      (prefix_self m, λ r h. h),
    )

pub loop-chain-smaller : goal.loop-chain-smaller
loop-chain-smaller g c =
    let m = g.N.Chunks.contents in let p = g.N.Chunks.places in let k = c.in_ok-basis.ensures.told in
    let i = c.loop-chain.invariant in let grown = c.look_at_commit.ensures.grown in
    (stair_step (p c.loop-chain.nodes) (p c.look_at_commit.new.nodes) (m c.args.nodes.now) (m c.loop-chain.nodes)
    (m c.look_at_commit.new.nodes) (stamp_of c.args.head) c.loop-chain.at c.loop-chain.chain.items k.0.now
    c.in-Some.basis
    i.0 grown.0 grown.1 i.1 k.1.1 (sym k.2 ∙ c.in-Some.is)).0

pub loop-chain-preserved : goal.loop-chain-preserved
loop-chain-preserved g c =
    let m = g.N.Chunks.contents in let p = g.N.Chunks.places in let k = c.in_ok-basis.ensures.told in
    let i = c.loop-chain.invariant in let grown = c.look_at_commit.ensures.grown in
    let may = p c.look_at_commit.new.nodes in
    let s = stair_step (p c.loop-chain.nodes) may (m c.args.nodes.now) (m c.loop-chain.nodes)
    (m c.look_at_commit.new.nodes) (stamp_of c.args.head) c.loop-chain.at c.loop-chain.chain.items k.0.now
    c.in-Some.basis
    i.0 grown.0 grown.1 i.1 k.1.1 (sym k.2 ∙ c.in-Some.is) in (
      subst (λ (w : List Ref). IsStair may (m c.args.nodes.now) (m c.look_at_commit.new.nodes) (stamp_of c.args.head)
          c.in-Some.basis w) (sym c.in_ok-keep.ensures) s.1,
      subst (IfAt may) (sym k.2 ∙ c.in-Some.is)
          (basis_may may (m c.look_at_commit.new.nodes) (stamp_of c.loop-chain.at) k.0.now k.1),
      grows_on m p c.args.nodes.now c.loop-chain.nodes c.look_at_commit.new.nodes i.2 grown,
    )

pub returns-clause-chain : goal.returns-clause-chain
returns-clause-chain g c v h =
    let m = g.N.Chunks.contents in let p = g.N.Chunks.places in let k = c.in_ok-basis.ensures.told in
    let grown = c.look_at_commit.ensures.grown in
    stair_ends (p c.loop-chain.nodes) (p c.look_at_commit.new.nodes) (m c.args.nodes.now) (m c.loop-chain.nodes)
    (m c.look_at_commit.new.nodes) (stamp_of c.args.head) c.loop-chain.at c.loop-chain.chain.items k.0.now
    c.loop-chain.invariant.0 grown.0 grown.1 k.1.1
    (sym k.2 ∙ none_from c.in_ok-basis.field-0 c.in_default.not-Some) v h

pub returns-in_err-basis-clause-grown : goal.returns-in_err-basis-clause-grown
returns-in_err-basis-clause-grown g c =
    grows_on g.N.Chunks.contents g.N.Chunks.places _ _ _ c.loop-chain.invariant.2 c.look_at_commit.ensures.grown

pub returns-in_err-keep-clause-grown : goal.returns-in_err-keep-clause-grown
returns-in_err-keep-clause-grown g c =
    grows_on g.N.Chunks.contents g.N.Chunks.places _ _ _ c.loop-chain.invariant.2 c.look_at_commit.ensures.grown

pub returns-clause-grown : goal.returns-clause-grown
returns-clause-grown g c =
    grows_on g.N.Chunks.contents g.N.Chunks.places _ _ _ c.loop-chain.invariant.2 c.look_at_commit.ensures.grown

pub look_at_commit-requires-clause-place : goal.look_at_commit-requires-clause-place
look_at_commit-requires-clause-place g c =
    c.loop-chain.invariant.1
