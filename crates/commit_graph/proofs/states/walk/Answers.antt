use Rattle.std.proofs.Common.{List, sym, subst, ◌∙◌}
use Rattle.std.proofs.lemmas.Result.{IfOk-at_ok}
use Rattle.group_history.specs.declared.mutations.MutationFields.{MutationFields as Mutation}
use Rattle.group_history.specs.Refs.{stamp_of}
use Rattle.group_history.proofs.Lists.{prefix_self}
use Rattle.map_chunks.proofs.KeptLemmas.{grows_on}
use Rattle.commit_graph.proofs.Rooted.{link_may}
use Rattle.commit_graph.proofs.Chained.{IsDescent, descent_begins, descent_step, descent_ends, no_link, none_from}
use Rattle.commit_graph.proofs.states.walk.Goals as goal

pub loop-pending-init : goal.loop-pending-init
loop-pending-init g c =
    let m = g.N.Chunks.contents c.args.nodes.now in (
      subst (λ (w : List Mutation). IsDescent m m (stamp_of c.args.head) (stamp_of c.args.head) w)
          (sym c.new-pending.ensures.items) (descent_begins m (stamp_of c.args.head) c.requires.known (prefix_self m)),
      c.requires.place,
      (prefix_self m, λ r h. h),
    )

pub loop-pending-smaller : goal.loop-pending-smaller
loop-pending-smaller g c =
    let m = g.N.Chunks.contents in let k = c.in_ok-look_at_commit.ensures.told in
    (descent_step (m c.args.nodes.now) (m c.loop-pending.nodes) (m c.look_at_commit.new.nodes) (stamp_of c.args.head)
    (stamp_of c.loop-pending.at) c.loop-pending.pending.items k.0.now c.in-Some.link
    c.loop-pending.invariant.0 c.look_at_commit.ensures.grown.0 k.1.1
    (sym (IfOk-at_ok _ c.in_ok-link.was k.2) ∙ c.in-Some.is)).0

pub loop-pending-preserved : goal.loop-pending-preserved
loop-pending-preserved g c =
    let m = g.N.Chunks.contents in let k = c.in_ok-look_at_commit.ensures.told in
    let d = descent_step (m c.args.nodes.now) (m c.loop-pending.nodes) (m c.look_at_commit.new.nodes)
    (stamp_of c.args.head)
    (stamp_of c.loop-pending.at) c.loop-pending.pending.items k.0.now c.in-Some.link
    c.loop-pending.invariant.0 c.look_at_commit.ensures.grown.0 k.1.1
    (sym (IfOk-at_ok _ c.in_ok-link.was k.2) ∙ c.in-Some.is) in
    let may = g.N.Chunks.places c.look_at_commit.new.nodes in (
      subst (λ (w : List Mutation). IsDescent (m c.args.nodes.now) (m c.look_at_commit.new.nodes) (stamp_of c.args.head)
          (stamp_of c.in-Some.link.basis) w) (sym c.in_ok-add.ensures) d.1,
      link_may may (m c.look_at_commit.new.nodes) (stamp_of c.loop-pending.at) k.0.now c.in-Some.link k.1
          (sym (IfOk-at_ok _ c.in_ok-link.was k.2) ∙ c.in-Some.is),
      grows_on m g.N.Chunks.places c.args.nodes.now c.loop-pending.nodes c.look_at_commit.new.nodes
          c.loop-pending.invariant.2 c.look_at_commit.ensures.grown,
    )

pub returns-clause-pending : goal.returns-clause-pending
returns-clause-pending g c v h =
    let m = g.N.Chunks.contents in let k = c.in_ok-look_at_commit.ensures.told in
    c.reverse.ensures.items
    ∙ descent_ends (m c.args.nodes.now) (m c.loop-pending.nodes) (m c.look_at_commit.new.nodes) (stamp_of c.args.head)
    (stamp_of c.loop-pending.at) c.loop-pending.pending.items k.0.now c.loop-pending.invariant.0
    c.look_at_commit.ensures.grown.0 k.1.1
    (no_link k.0.now (sym (IfOk-at_ok _ c.in_ok-link.was k.2) ∙ none_from c.in_ok-link.field-0 c.in_default.not-Some))
    v h

pub look_at_commit-requires-clause-place : goal.look_at_commit-requires-clause-place
look_at_commit-requires-clause-place g c = c.loop-pending.invariant.1

pub returns-clause-grown : goal.returns-clause-grown
returns-clause-grown g c =
    grows_on g.N.Chunks.contents g.N.Chunks.places _ _ _
    c.loop-pending.invariant.2 c.look_at_commit.ensures.grown

pub returns-in_err-link-clause-grown : goal.returns-in_err-link-clause-grown
returns-in_err-link-clause-grown g c =
    grows_on g.N.Chunks.contents g.N.Chunks.places _ _ _
    c.loop-pending.invariant.2 c.look_at_commit.ensures.grown

pub returns-in_err-add-clause-grown : goal.returns-in_err-add-clause-grown
returns-in_err-add-clause-grown g c =
    grows_on g.N.Chunks.contents g.N.Chunks.places _ _ _
    c.loop-pending.invariant.2 c.look_at_commit.ensures.grown
