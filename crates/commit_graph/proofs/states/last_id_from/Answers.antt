use Rattle.std.proofs.Common.{◌≡◌, ◌<◌, ℕ, suc, Some, Option, ap, sym, subst, ◌∙◌, arith}
use Rattle.group_history.specs.declared.refs.Ref.{Ref}
use Rattle.group_history.specs.Refs.{stamp_of}
use Rattle.group_history.specs.State.{last_id}
use Rattle.group_history.specs.Spelling.{Version}
use Rattle.group_history.proofs.Lists.{prefix_self}
use Rattle.map_chunks.proofs.KeptLemmas.{IfAt, grows_on}
use Rattle.commit_graph.proofs.Rooted.{next_may}
use Rattle.commit_graph.proofs.Chained.{IsSearch, ahead, search_begins, search_ends, search_step, some_version}
use Rattle.commit_graph.proofs.states.last_id_from.Goals as goal

pub loop-next-init : goal.loop-next-init
loop-next-init g c =
    let m = g.N.Chunks.contents c.args.nodes.now in let v = some_version m (stamp_of c.args.head) c.requires.head in (
      v.0,
      v.1,
      search_begins m c.args.head c.args.client.now v.0 v.1 (c.requires.ids v.0 v.1),
      (prefix_self m, λ r h. h),
      c.requires.place,
    )

pub returns-in-Some-found_at-clause-id : goal.returns-in-Some-found_at-clause-id
returns-in-Some-found_at-clause-id g c v h =
    let m = g.N.Chunks.contents in let i = c.loop-next.invariant in let f = c.in-Some-found_at.ensures in
    let last = last_id i.0.state c.args.client.now in
    let met = subst (λ (o : Option Ref). IsSearch (m c.loop-next.nodes) c.args.client.now last o) c.in-Some.is i.2 in
    let same : i.0 ≡ v = (let e : Some i.0 ≡ Some v = sym i.1 ∙ h in cc e) in
    sym f.3 ∙ search_ends (m c.args.nodes.now) (m c.loop-next.nodes) c.args.client.now last c.in-Some.at
    (stamp_of f.0.at) f.0.id met i.3.0 f.2 (c.requires.before f.0 f.1)
    ∙ ap (λ (w : Version). last_id w.state c.args.client.now) same

pub returns-then-own-gt0-clause-id : goal.returns-then-own-gt0-clause-id
returns-then-own-gt0-clause-id g c v h =
    let m = g.N.Chunks.contents in let i = c.loop-next.invariant in let k = c.in_ok-own.ensures.told in
    let last = last_id i.0.state c.args.client.now in
    let met = subst (λ (o : Option Ref). IsSearch (m c.loop-next.nodes) c.args.client.now last o) c.in-Some.is i.2 in
    let s = search_step (m c.loop-next.nodes)
    (m c.look_at_commit.new.nodes) c.args.client.now last c.in-Some.at k.0.now met c.look_at_commit.ensures.grown.0
    k.1.1 in
    let same : i.0 ≡ v = (let e : Some i.0 ≡ Some v = sym i.1 ∙ h in cc e) in
    k.2.1.0 ∙ (s.1 (subst (λ (n : ℕ). 0 < n) k.2.1.0 c.if-own-gt0.true) ∙ ap
    (λ (w : Version). last_id w.state c.args.client.now) same)

pub loop-next-smaller : goal.loop-next-smaller
loop-next-smaller g c =
    let m = g.N.Chunks.contents in let i = c.loop-next.invariant in let k = c.in_ok-own.ensures.told in
    let last = last_id i.0.state c.args.client.now in
    let met = subst (λ (o : Option Ref). IsSearch (m c.loop-next.nodes) c.args.client.now last o) c.in-Some.is i.2 in
    let s = search_step (m c.loop-next.nodes)
    (m c.look_at_commit.new.nodes) c.args.client.now last c.in-Some.at k.0.now met c.look_at_commit.ensures.grown.0
    k.1.1 in
    subst (λ (o : Option Ref). ahead c.in_ok-own.own.next < ahead o) (sym c.in-Some.is)
    (subst (λ (o : Option Ref). ahead o < suc (stamp_of c.in-Some.at)) (sym k.2.1.1) s.0)

pub loop-next-preserved : goal.loop-next-preserved
loop-next-preserved g c =
    let m = g.N.Chunks.contents in let i = c.loop-next.invariant in let k = c.in_ok-own.ensures.told in
    let last = last_id i.0.state c.args.client.now in
    let met = subst (λ (o : Option Ref). IsSearch (m c.loop-next.nodes) c.args.client.now last o) c.in-Some.is i.2 in
    let s = search_step (m c.loop-next.nodes)
    (m c.look_at_commit.new.nodes) c.args.client.now last c.in-Some.at k.0.now met c.look_at_commit.ensures.grown.0
    k.1.1 in
    let none = sym k.2.1.0 ∙ omega (arith, c.if-own-gt0.false) in
    let may = g.N.Chunks.places c.look_at_commit.new.nodes in (
      i.0,
      i.1,
      subst (λ (o : Option Ref). IsSearch (m c.look_at_commit.new.nodes) c.args.client.now last o) (sym k.2.1.1)
          (s.2 none),
      grows_on m g.N.Chunks.places c.args.nodes.now c.loop-next.nodes c.look_at_commit.new.nodes i.3
          c.look_at_commit.ensures.grown,
      subst (IfAt may) (sym k.2.1.1)
          (next_may may (m c.look_at_commit.new.nodes) (stamp_of c.in-Some.at) k.0.now k.1),
    )

pub look_at_commit-requires-clause-place : goal.look_at_commit-requires-clause-place
look_at_commit-requires-clause-place g c = subst
    (IfAt (g.N.Chunks.places c.loop-next.nodes)) c.in-Some.is c.loop-next.invariant.4

pub returns-then-own-gt0-clause-grown : goal.returns-then-own-gt0-clause-grown
returns-then-own-gt0-clause-grown g c =
    grows_on g.N.Chunks.contents g.N.Chunks.places _ _ _
    c.loop-next.invariant.3 c.look_at_commit.ensures.grown

pub returns-in_err-own-clause-grown : goal.returns-in_err-own-clause-grown
returns-in_err-own-clause-grown g c =
    grows_on g.N.Chunks.contents g.N.Chunks.places _ _ _
    c.loop-next.invariant.3 c.look_at_commit.ensures.grown
