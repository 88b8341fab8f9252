use Rattle.std.proofs.Common.{ap, sym, subst, ◌∙◌}
use Rattle.std.specs.Prelude.{IfErr, IfOk}
use Rattle.group_history.specs.declared.changes.Change.TheVariants.{Mutated}
use Rattle.group_history.specs.declared.mutations.MutationFields.{MutationFields as Mutation}
use Rattle.group_history.specs.Map.{Entries}
use Rattle.group_history.specs.Meaning.{meaning_of}
use Rattle.group_history.specs.Ran.{RunsAs}
use Rattle.head_word.specs.Books.{drawn}
use Rattle.map_tree.specs.Trees.{tree_map}
use Rattle.linearized.specs.Trying.{IsUnproposed}
use Rattle.change_tries.specs.Missing.{IsStop}
use Rattle.change_tries.specs.Places.{state_at}
use Rattle.change_tries.specs.Proposing.{asked_reply, change_asked}
use Rattle.change_tries.specs.Runs.{IsNext, MayStep, with_draft}
use Rattle.change_tries.proofs.Running.{has_run}
use Rattle.change_tries.proofs.ending.end_asked.Goals as goal

pub end_new-requires-clause-new : goal.end_new-requires-clause-new
end_new-requires-clause-new g c κs within =
    let r = c.requires.run in record {
      first = r.leads.first;
      needed = r.leads.needed;
      tip = r.judged.3;
      next = subst (λ (y : Mutation). IsNext (state_at c.args.at.now) c.args.last y) (sym r.judged.0) r.judged.2;
    }

pub end_new-requires-clause-ran : goal.end_new-requires-clause-ran
end_new-requires-clause-ran g c κs within =
    let means = g.M.Means.means in let cs = drawn c.args.at.now.mark.log in let run = c.args.run in
    let h = has_run means cs run c.args.ran c.requires.run.map c.requires.ran in (
      h.0,
      ap (tree_map (with_draft cs run.chain)) c.into_tree-tree.ensures ∙ h.1,
      subst (λ (m : Entries). RunsAs (meaning_of means run.mutation m) c.args.ran h.0) c.requires.run.judged.4 h.2,
    )

pub returns-clause-step : goal.returns-clause-step
returns-clause-step g c =
    let at = c.args.at.now in
    subst (λ (y : Mutation). IfOk c.end_new.result (MayStep g.M.Has.has g.M.Means.means (drawn at.mark.log) at.commit
    (state_at at) c.args.last (Mutated y))) c.requires.run.judged.0 c.end_new.ensures.step

pub returns-clause-err : goal.returns-clause-err
returns-clause-err g c = subst (λ (y : Mutation). IfErr c.end_new.result (IsUnproposed (IsStop g.S.Slots.reused)
    (change_asked (Mutated y)) (asked_reply g.M.Means.means (state_at c.args.at.now) c.args.last (Mutated y))))
    c.requires.run.judged.0 c.end_new.ensures.err
