use Rattle.std.proofs.Common.{◌≡◌, ◌<◌, ◌++◌, List, length, suc, Some, None, Option, reverse}
use Rattle.std.proofs.Common.{ap, sym, subst, ◌∙◌, vec_len}
use Rattle.std.proofs.lemmas.Bool.Decides.{Decides-eqb}
use Rattle.std.proofs.lemmas.List.{nil_from_length}
use Rattle.std.proofs.lemmas.Result.{IfOk-at_ok}
use Rattle.group_history.specs.declared.refs.Ref.{Ref}
use Rattle.group_history.specs.declared.responses.Confirmed.{Confirmed}
use Rattle.group_history.specs.Pulling.{overwritten}
use Rattle.group_history.specs.Refs.{stamp_of}
use Rattle.group_history.specs.Spelling.{Version, last_ids}
use Rattle.group_history.specs.State.{Ids}
use Rattle.group_history.proofs.Lists.{prefix_self}
use Rattle.map_chunks.proofs.KeptLemmas.{IfAt, grows_on}
use Rattle.commit_graph.specs.Inside.Chains.{said_of}
use Rattle.commit_graph.specs.Inside.Telling.{SaysIds}
use Rattle.commit_graph.proofs.Chained.{ahead, none_from, some_version}
use Rattle.commit_graph.proofs.Gathering.{IsGathered, gather_ends, gather_said}
use Rattle.commit_graph.proofs.Rooted.{next_may}
use Rattle.commit_graph.proofs.telling.last_ids_at.Goals as goal

pub loop-next-init : goal.loop-next-init
loop-next-init g c =
    let m = g.N.Chunks.contents c.args.nodes.now in let v = some_version m (stamp_of c.args.head) c.requires.known in (
      v.0,
      v.1,
      (v.0, v.1, sym (ap (λ w. overwritten (last_ids v.0.state) (reverse w)) c.new-newer.ensures.items)),
      (prefix_self m, λ r h. h),
      c.requires.place,
    )

pub loop-next-smaller : goal.loop-next-smaller
loop-next-smaller g c =
    let m = g.N.Chunks.contents in let i = c.loop-next.invariant in let k = c.in_ok-look_at_commit.ensures.told in
    let before = c.loop-next.newer.items in let found = c.in_ok-found.found in
    let says = subst (λ (xs : List Confirmed). SaysIds xs (said_of k.0.now) found)
    c.as_slice-before.ensures.value (IfOk-at_ok _ c.in_ok-found.was k.2.1) in
    let met = subst (λ (o : Option Ref). IsGathered (m c.loop-next.nodes) i.0.state o c.loop-next.told before)
    c.in-Some.is i.2 in
    let s = gather_said (m c.loop-next.nodes) (m c.look_at_commit.new.nodes) i.0.state c.in-Some.at c.loop-next.told
    before k.0.now found met c.look_at_commit.ensures.grown.0 k.1.1 says in
    subst (λ (o : Option Ref). ahead found.next < ahead o) (sym c.in-Some.is) s.0

pub loop-next-preserved : goal.loop-next-preserved
loop-next-preserved g c =
    let m = g.N.Chunks.contents in let i = c.loop-next.invariant in let k = c.in_ok-look_at_commit.ensures.told in
    let now = m c.look_at_commit.new.nodes in let may = g.N.Chunks.places c.look_at_commit.new.nodes in
    let before = c.loop-next.newer.items in let found = c.in_ok-found.found in
    let says = subst (λ (xs : List Confirmed). SaysIds xs (said_of k.0.now) found)
    c.as_slice-before.ensures.value (IfOk-at_ok _ c.in_ok-found.was k.2.1) in
    let met = subst (λ (o : Option Ref). IsGathered (m c.loop-next.nodes) i.0.state o c.loop-next.told before)
    c.in-Some.is i.2 in
    let s = gather_said (m c.loop-next.nodes) now i.0.state c.in-Some.at c.loop-next.told before k.0.now found met
    c.look_at_commit.ensures.grown.0 k.1.1 says in (
      i.0,
      i.1,
      subst (λ (ys : List Confirmed). IsGathered now i.0.state found.next found.told ys) (sym c.in_ok-add.ensures) s.1,
      grows_on m g.N.Chunks.places c.args.nodes.now c.loop-next.nodes c.look_at_commit.new.nodes i.3
          c.look_at_commit.ensures.grown,
      subst (IfAt may) (sym says.next) (next_may may now (stamp_of c.in-Some.at) k.0.now k.1),
    )

pub look_at_commit-requires-clause-place : goal.look_at_commit-requires-clause-place
look_at_commit-requires-clause-place g c = subst
    (IfAt (g.N.Chunks.places c.loop-next.nodes)) c.in-Some.is c.loop-next.invariant.4

pub returns-then-is_empty-clause-ids : goal.returns-then-is_empty-clause-ids
returns-then-is_empty-clause-ids g c v h =
    let m = g.N.Chunks.contents in let i = c.loop-next.invariant in let newer = c.loop-next.newer.items in
    let none : c.loop-next.next ≡ None = none_from c.loop-next.next c.in_default.not-Some in
    let met = subst (λ (o : Option Ref). IsGathered (m c.loop-next.nodes) i.0.state o c.loop-next.told newer) none
    i.2 in
    let e = gather_ends (m c.loop-next.nodes) i.0.state c.loop-next.told newer met in
    let told : c.in-Some-told.told ≡ e.0 =
    (let f : Some c.in-Some-told.told ≡ Some e.0 = sym c.in-Some-told.is ∙ e.1 in cc f) in
    let same : i.0 ≡ v = (let f : Some i.0 ≡ Some v = sym i.1 ∙ h in cc f) in
    let len : length newer ≡ 0 = sym c.loop-next.newer.ok.0
    ∙ (Decides-eqb (vec_len c.loop-next.newer) 0).0 (sym c.is_empty.ensures ∙ c.if-is_empty.true) in
    told ∙ ap (λ (w : List Confirmed). overwritten e.0 (reverse w)) (sym (nil_from_length newer len))
    ∙ sym e.2 ∙ ap (λ (w : Version). last_ids w.state) same

pub returns-clause-ids : goal.returns-clause-ids
returns-clause-ids g c v h =
    let m = g.N.Chunks.contents in let i = c.loop-next.invariant in let newer = c.loop-next.newer.items in
    let none : c.loop-next.next ≡ None = none_from c.loop-next.next c.in_default.not-Some in
    let met = subst (λ (o : Option Ref). IsGathered (m c.loop-next.nodes) i.0.state o c.loop-next.told newer) none
    i.2 in
    let e = gather_ends (m c.loop-next.nodes) i.0.state c.loop-next.told newer met in
    let told : c.in-Some-told.told ≡ e.0 =
    (let f : Some c.in-Some-told.told ≡ Some e.0 = sym c.in-Some-told.is ∙ e.1 in cc f) in
    let same : i.0 ≡ v = (let f : Some i.0 ≡ Some v = sym i.1 ∙ h in cc f) in
    c.in_ok-overwritten.ensures
    ∙ ap (overwritten c.in-Some-told.told) (c.deref.ensures.value ∙ c.reverse.ensures.items)
    ∙ ap (λ (w : Ids). overwritten w (reverse newer)) told
    ∙ sym e.2 ∙ ap (λ (w : Version). last_ids w.state) same
