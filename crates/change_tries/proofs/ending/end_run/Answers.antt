use Rattle.std.proofs.Common.{◌≡◌, sym, subst}
use Rattle.std.specs.Prelude.{IfErr, IfOk}
use Rattle.group_history.specs.declared.changes.Change.{Change}
use Rattle.group_history.specs.declared.refusals.Refusal.{Refusal}
use Rattle.group_history.specs.declared.refusals.Refusal.TheVariants as refusal
use Rattle.head_word.specs.Books.{drawn}
use Rattle.map_chunks.specs.Drafts.{IsLate}
use Rattle.change_tries.specs.Places.{state_at}
use Rattle.change_tries.specs.Runs.{IsAskedRun, IsBehind, IsRunOf, MayStep}
use Rattle.change_tries.specs.declared.runs.AskedRun.{AskedRun}
use Rattle.change_tries.proofs.Running.{behind_ended}
use Rattle.change_tries.proofs.ending.end_run.Goals as goal

pub end_asked-requires-clause-run : goal.end_asked-requires-clause-run
end_asked-requires-clause-run g c κs within =
    let p = c.args.at.now in let means = g.M.Means.means in let request = c.args.request.now in
    let last = request.before.id in
    subst (λ (w : Change). IsAskedRun means (drawn p.mark.log) (state_at p) last w c.into_run-run.result)
    c.in-Mutated.is
    (subst (λ (r : AskedRun). IsAskedRun means (drawn p.mark.log) (state_at p) last request.call.change.now r)
    (sym c.into_run-run.ensures) c.requires.run)

pub end_asked-requires-clause-ran : goal.end_asked-requires-clause-ran
end_asked-requires-clause-ran g c κs within = subst (λ (r : AskedRun). IsRunOf g.M.Means.means
    (drawn c.args.at.now.mark.log) r c.args.ended.ran) (sym c.into_run-run.ensures) c.requires.ran

pub end_rebased-requires-clause-run : goal.end_rebased-requires-clause-run
end_rebased-requires-clause-run g c κs within =
    let p = c.args.at.now in let means = g.M.Means.means in let request = c.args.request.now in
    let last = request.before.id in (
      last,
      _,
      _,
      subst (λ (w : Change). IsAskedRun means (drawn p.mark.log) (state_at p) last w c.into_run-run.result)
          c.in-Pulled.is
          (subst (λ (r : AskedRun). IsAskedRun means (drawn p.mark.log) (state_at p) last request.call.change.now r)
          (sym c.into_run-run.ensures) c.requires.run),
    )

pub end_rebased-requires-clause-ran : goal.end_rebased-requires-clause-ran
end_rebased-requires-clause-ran g c κs within = subst (λ (r : AskedRun). IsRunOf g.M.Means.means
    (drawn c.args.at.now.mark.log) r c.args.ended.ran) (sym c.into_run-run.ensures) c.requires.ran

pub returns-in-Mutated-clause-behind : goal.returns-in-Mutated-clause-behind
returns-in-Mutated-clause-behind g c =
    let has = g.M.Has.has in let means = g.M.Means.means in let cs = drawn c.args.at.now.mark.log in
    behind_ended has means cs c.args.ended.run c.args.ended.ran c.end_asked.result c.end_asked.ensures.none

pub returns-in-Pulled-clause-behind : goal.returns-in-Pulled-clause-behind
returns-in-Pulled-clause-behind g c =
    let has = g.M.Has.has in let means = g.M.Means.means in let cs = drawn c.args.at.now.mark.log in
    subst (λ (r : AskedRun). IfOk c.end_rebased.result (IsBehind has means cs r c.args.ended.ran))
    c.into_run-run.ensures c.end_rebased.ensures.behind

pub returns-in-Mutated-clause-late : goal.returns-in-Mutated-clause-late
returns-in-Mutated-clause-late g c = subst (λ (r : AskedRun). IfErr c.end_asked.result (λ (e : Refusal).
    e ≡ refusal.Stamps → IsLate r.chain.draft.first)) c.into_run-run.ensures c.end_asked.ensures.late

pub returns-in-Pulled-clause-late : goal.returns-in-Pulled-clause-late
returns-in-Pulled-clause-late g c = subst (λ (r : AskedRun). IfErr c.end_rebased.result (λ (e : Refusal).
    e ≡ refusal.Stamps → IsLate r.chain.draft.first)) c.into_run-run.ensures c.end_rebased.ensures.late

pub returns-in-Pulled-clause-step : goal.returns-in-Pulled-clause-step
returns-in-Pulled-clause-step g c =
    let p = c.args.at.now in let means = g.M.Means.means in let request = c.args.request.now in
    let last = request.before.id in
    subst (λ (w : Change). IfOk c.end_rebased.result
    (MayStep g.M.Has.has means (drawn p.mark.log) p.commit (state_at p) last w)) (sym c.in-Pulled.is)
    (c.end_rebased.ensures.step last _ _
    (subst (λ (w : Change). IsAskedRun means (drawn p.mark.log) (state_at p) last w c.into_run-run.result)
    c.in-Pulled.is
    (subst (λ (r : AskedRun). IsAskedRun means (drawn p.mark.log) (state_at p) last request.call.change.now r)
    (sym c.into_run-run.ensures) c.requires.run)))
