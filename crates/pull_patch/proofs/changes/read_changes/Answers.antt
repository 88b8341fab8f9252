use Rattle.std.proofs.Common.{◌≡◌, ◌≤◌, ◌^◌, ◌∷◌, [], ◌++◌, Some, None, cond, string_bytes, sym, ap, ◌∙◌, subst, rules}
use Rattle.std.proofs.Common.{IfSome}
use Rattle.std.proofs.lemmas.List.Elements.{All-push}
use Rattle.serde_json.specs.View.{view, number_view, members_view}
use Rattle.group_history.specs.declared.responses.Confirmed.{Confirmed}
use Rattle.pull_patch.specs.Fields.{each, members_list}
use Rattle.pull_patch.specs.Changes.{entry, entry_of, confirmed_said}
use Rattle.pull_patch.proofs.Eaches.{Gave, Gave-next, Gave-none, Gave-all, Gathered-next, Gathered-missing}
use Rattle.pull_patch.proofs.Lists.{entry_of-some, entry_of-none, changes_part-none, changes_part-ok}
use Rattle.pull_patch.proofs.changes.read_changes.Goals as goal

pub returns-in_default-clause-value : goal.returns-in_default-clause-value
returns-in_default-clause-value c =
    let l = c.loop-name in
    let all : c.into_iter-name-iterator.result ≡ c.args.members.now.entries = search rules in
    let gave = subst (λ es. Gave entry_of (members_list (members_view c.into_iter-name-iterator.result)) l.invariant.0
    (members_list (members_view es))) c.in-Some.ensures.steps l.invariant.1 in
    let none = Gave-none entry_of (members_list (members_view c.into_iter-name-iterator.result))
    (members_list (members_view c.next.new.self)) l.invariant.0 _ gave
    (entry_of-none _ (view c.in-Some.member.now) (sym c.in_default.ensures.value)) in
    changes_part-none _ (subst (λ es. each entry_of (members_list (members_view es)) ≡ None) all none)

pub loop-name-preserved-in-Continue-branch-3 : goal.loop-name-preserved-in-Continue-branch-3
loop-name-preserved-in-Continue-branch-3 c =
    let l = c.loop-name in
    let e = entry (string_bytes c.in-Some.name.now) (number_view c.in-Some-id_of.number.now) in
    let gave = subst (λ es. Gave entry_of (members_list (members_view c.into_iter-name-iterator.result)) l.invariant.0
    (members_list (members_view es))) c.in-Some.ensures.steps l.invariant.1 in
    let is = ap (λ n. confirmed_said (entry n (number_view c.in-Some-id_of.number.now)))
    (sym c.as_str.ensures.value) ∙ sym c.in_ok-change.ensures.value ∙ c.in-Some-2.is in (
      l.invariant.0 ++ e ∷ [],
      Gave-next entry_of (members_list (members_view c.into_iter-name-iterator.result))
          (members_list (members_view c.next.new.self)) l.invariant.0 _ e gave
          (entry_of-some _ (view c.in-Some.member.now) _ (sym c.in-Some-id_of.ensures.value)),
      rw c.in_ok-push-in-Some-2.ensures.items
          (Gathered-next confirmed_said l.invariant.0 e c.in-Some-2.change l.whole l.changes.items l.invariant.2 is),
      rw c.in_ok-push-in-Some-2.ensures.items
          (All-push (λ (x : Confirmed). x.id ≤ 2 ^ 52) l.changes.items c.in-Some-2.change l.invariant.3
          (subst (λ o. IfSome o (λ (x : Confirmed). x.id ≤ 2 ^ 52)) c.in-Some-2.is c.in_ok-change.ensures.in_range)),
    )

pub loop-name-preserved : goal.loop-name-preserved
loop-name-preserved c =
    let l = c.loop-name in
    let e = entry (string_bytes c.in-Some.name.now) (number_view c.in-Some-id_of.number.now) in
    let gave = subst (λ es. Gave entry_of (members_list (members_view c.into_iter-name-iterator.result)) l.invariant.0
    (members_list (members_view es))) c.in-Some.ensures.steps l.invariant.1 in
    let is = ap (λ n. confirmed_said (entry n (number_view c.in-Some-id_of.number.now)))
    (sym c.as_str.ensures.value) ∙ sym c.in_ok-change.ensures.value ∙ c.in-None-2.is in (
      l.invariant.0 ++ e ∷ [],
      Gave-next entry_of (members_list (members_view c.into_iter-name-iterator.result))
          (members_list (members_view c.next.new.self)) l.invariant.0 _ e gave
          (entry_of-some _ (view c.in-Some.member.now) _ (sym c.in-Some-id_of.ensures.value)),
      Gathered-missing confirmed_said l.invariant.0 e l.changes.items is,
      l.invariant.3,
    )

pub returns-then-not-whole-clause-value : goal.returns-then-not-whole-clause-value
returns-then-not-whole-clause-value c =
    let l = c.loop-name in
    let all : c.into_iter-name-iterator.result ≡ c.args.members.now.entries = search rules in
    let done = Gave-all entry_of (members_list (members_view c.into_iter-name-iterator.result)) l.invariant.0
    (subst (λ es. Gave entry_of (members_list (members_view c.into_iter-name-iterator.result)) l.invariant.0
    (members_list (members_view es))) c.in-None.ensures.steps.0 l.invariant.1) in
    changes_part-ok _ l.invariant.0 _ (subst
    (λ es. each entry_of (members_list (members_view es)) ≡ Some l.invariant.0) all done)
    (l.invariant.2 ∙ ap (λ b. cond b (Some l.changes.items) None) c.if-not-whole.true)

pub returns-clause-value : goal.returns-clause-value
returns-clause-value c =
    let l = c.loop-name in
    let all : c.into_iter-name-iterator.result ≡ c.args.members.now.entries = search rules in
    let done = Gave-all entry_of (members_list (members_view c.into_iter-name-iterator.result)) l.invariant.0
    (subst (λ es. Gave entry_of (members_list (members_view c.into_iter-name-iterator.result)) l.invariant.0
    (members_list (members_view es))) c.in-None.ensures.steps.0 l.invariant.1) in
    changes_part-ok _ l.invariant.0 _ (subst
    (λ es. each entry_of (members_list (members_view es)) ≡ Some l.invariant.0) all done)
    (l.invariant.2 ∙ ap (λ b. cond b (Some l.changes.items) None) c.if-not-whole.false)

pub returns-clause-in_range : goal.returns-clause-in_range
returns-clause-in_range c = c.loop-name.invariant.3
