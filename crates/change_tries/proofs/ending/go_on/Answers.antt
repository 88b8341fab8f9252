use Rattle.std.proofs.Common.{◌≡◌, List, [], IsSome, Some, ◌<◌, arith, refl, reverse, rules, vec_len, sym, ap, subst}
use Rattle.std.proofs.Common.{◌∙◌}
use Rattle.std.specs.Prelude.{IfErr}
use Rattle.group_history.specs.declared.mutations.MutationFields.{MutationFields as Mutation}
use Rattle.group_history.specs.declared.refusals.Refusal.{Refusal}
use Rattle.group_history.specs.declared.refusals.Refusal.TheVariants as refusal
use Rattle.group_history.specs.Map.{Entries}
use Rattle.group_history.specs.Pulling.{after_pull}
use Rattle.group_history.specs.State.{replayed}
use Rattle.head_word.specs.Books.{drawn}
use Rattle.map_chunks.specs.Drafts.{IsLate}
use Rattle.change_tries.specs.Going.{HasGone}
use Rattle.change_tries.specs.Places.{state_at}
use Rattle.change_tries.specs.Runs.{HasNew, Leads}
use Rattle.change_tries.specs.declared.ending.Went.{Went}
use Rattle.change_tries.specs.declared.runs.Chain.{Chain}
use Rattle.change_tries.specs.declared.runs.Replaying.{Replaying}
use Rattle.change_tries.proofs.Going.{asked_gone, gone_more, leads_gone, mapped_gone, next_gone}
use Rattle.change_tries.proofs.Running.{on_ended}
use Rattle.change_tries.proofs.ending.go_on.Goals as goal

pub run_next-requires-clause-behind : goal.run_next-requires-clause-behind
run_next-requires-clause-behind g c κs within =
    let l = c.requires.leads in sym (leads_gone g.M.Has.has g.M.Means.means (drawn c.args.at.now.mark.log) l.0
    c.args.replaying c.loop-mutation.now l.1 c.loop-mutation.invariant l.2).first

pub run_next-requires-clause-map : goal.run_next-requires-clause-map
run_next-requires-clause-map g c κs within =
    let l = c.requires.leads in
    subst (λ o. IsSome o) (sym (mapped_gone g.M.Has.has g.M.Means.means (drawn c.args.at.now.mark.log)
    c.args.replaying c.loop-mutation.now l.1 c.loop-mutation.invariant l.3)) refl

pub loop-mutation-preserved : goal.loop-mutation-preserved
loop-mutation-preserved g c =
    let has = g.M.Has.has in let means = g.M.Means.means in let cs = drawn c.args.at.now.mark.log in
    let l = c.requires.leads in let now = c.loop-mutation.now in let x = c.in-Some.mutation in
    let popped : Replaying = record { chain = now.chain; ran = now.ran; tree = now.tree; behind = c.pop.new.self } in
    gone_more has means cs c.args.replaying now popped c.in-On.next x l.1 l.3 c.loop-mutation.invariant refl refl
    c.in-Some.ensures.items (λ m h. subst (λ (w : Went). HasGone has means cs popped x m w) c.in-On.is
    (c.in_ok-next.ensures.went m h))

pub finish-requires-clause-behind : goal.finish-requires-clause-behind
finish-requires-clause-behind g c κs within =
    let l = c.requires.leads in sym (leads_gone g.M.Has.has g.M.Means.means (drawn c.args.at.now.mark.log) l.0
    c.args.replaying c.loop-mutation.now l.1 c.loop-mutation.invariant l.2).first

pub finish-requires-clause-tip : goal.finish-requires-clause-tip
finish-requires-clause-tip g c κs within =
    let has = g.M.Has.has in let means = g.M.Means.means in let cs = drawn c.args.at.now.mark.log in
    let l = c.requires.leads in let v = c.loop-mutation.invariant in
    let more = leads_gone has means cs l.0 c.args.replaying c.loop-mutation.now l.1 v l.2 in (
      more.basis,
      more.tip,
      more.opened,
      mapped_gone has means cs c.args.replaying c.loop-mutation.now l.1 v l.3 ∙ ap
          (λ (m : Entries). Some m) more.mapped,
    )

pub returns-in-Asked-clause-step : goal.returns-in-Asked-clause-step
returns-in-Asked-clause-step g c last ticket r map accepted l new mapped =
    let has = g.M.Has.has in let means = g.M.Means.means in let cs = drawn c.args.at.now.mark.log in
    let s = state_at c.args.at.now in let now = c.loop-mutation.now in let x = c.in-Some.mutation in
    let v = c.loop-mutation.invariant in let m = replayed means map v.own in
    let popped : Replaying = record { chain = now.chain; ran = now.ran; tree = now.tree; behind = c.pop.new.self } in
    asked_gone has means cs s last ticket r now popped x c.in-Asked.run' m
    (leads_gone has means cs (after_pull s r) c.args.replaying now map v l) (subst HasNew (sym v.chain) new) accepted
    refl refl c.in-Some.ensures.items (subst (λ (w : Went). HasGone has means cs popped x m w) c.in-Asked.is
    (c.in_ok-next.ensures.went m (mapped_gone has means cs c.args.replaying now map v mapped)))

pub returns-in-Asked-clause-next : goal.returns-in-Asked-clause-next
returns-in-Asked-clause-next g c map mapped =
    let has = g.M.Has.has in let means = g.M.Means.means in let cs = drawn c.args.at.now.mark.log in
    let now = c.loop-mutation.now in let x = c.in-Some.mutation in
    let v = c.loop-mutation.invariant in let m = replayed means map v.own in
    let popped : Replaying = record { chain = now.chain; ran = now.ran; tree = now.tree; behind = c.pop.new.self } in
    next_gone has means cs c.args.replaying now popped x c.in-Asked.run' map v c.in-Some.ensures.items
    (subst (λ (w : Went). HasGone has means cs popped x m w) c.in-Asked.is
    (c.in_ok-next.ensures.went m (mapped_gone has means cs c.args.replaying now map v mapped)))

pub returns-clause-step : goal.returns-clause-step
returns-clause-step g c last ticket r map accepted l new mapped =
    let has = g.M.Has.has in let means = g.M.Means.means in let cs = drawn c.args.at.now.mark.log in
    let s = state_at c.args.at.now in let now = c.loop-mutation.now in let v = c.loop-mutation.invariant in
    let m = replayed means map v.own in
    let none : now.behind.items ≡ [] = search rules in
    c.finish.ensures.step last ticket r m accepted (subst (λ (ys : List Mutation).
    Leads means cs (after_pull s r) now.chain now.ran.items (reverse ys) m) none
    (leads_gone has means cs (after_pull s r) c.args.replaying now map v l)) (subst HasNew (sym v.chain) new)
    (mapped_gone has means cs c.args.replaying now map v mapped)

pub returns-clause-next : goal.returns-clause-next
returns-clause-next g c map mapped = on_ended g.M.Has.has g.M.Means.means (drawn c.args.at.now.mark.log)
    (reverse c.args.replaying.behind.items) map c.finish.result c.finish.ensures.none

pub returns-clause-late : goal.returns-clause-late
returns-clause-late g c = subst (λ (h : Chain). IfErr c.finish.result (λ (e : Refusal).
    e ≡ refusal.Stamps → IsLate h.draft.first)) c.loop-mutation.invariant.chain c.finish.ensures.late

pub loop-mutation-smaller : goal.loop-mutation-smaller
loop-mutation-smaller g c =
    let has = g.M.Has.has in let means = g.M.Means.means in let cs = drawn c.args.at.now.mark.log in
    let l = c.requires.leads in let now = c.loop-mutation.now in let x = c.in-Some.mutation in
    let v = c.loop-mutation.invariant in let m = replayed means l.1 v.own in
    let popped : Replaying = record { chain = now.chain; ran = now.ran; tree = now.tree; behind = c.pop.new.self } in
    let h = subst (λ (w : Went). HasGone has means cs popped x m w) c.in-On.is
    (c.in_ok-next.ensures.went m (mapped_gone has means cs c.args.replaying now l.1 v l.3)) in
    subst (λ rest. vec_len rest < vec_len now.behind) (sym h.2) (omega (arith, c.in-Some.ensures.len))
