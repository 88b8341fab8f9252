use Rattle.std.proofs.Common.{◌∷◌, List, [], refl, reverse, sym, subst}
use Rattle.std.specs.Prelude.{IfOk}
use Rattle.group_history.specs.declared.mutations.MutationFields.{MutationFields as Mutation}
use Rattle.group_history.specs.Map.{Entries}
use Rattle.group_history.specs.Meaning.{meaning_of}
use Rattle.group_history.specs.Pulling.{after_pull}
use Rattle.group_history.specs.State.{replayed}
use Rattle.head_word.specs.Books.{drawn}
use Rattle.change_tries.specs.Places.{state_at}
use Rattle.change_tries.specs.Runs.{IsOn, Leads, run_map, run_start}
use Rattle.change_tries.proofs.Running.{behind_of_on, leads_on, left_is}
use Rattle.change_tries.proofs.ending.end_rebased.Goals as goal

pub go_on-requires-clause-leads : goal.go_on-requires-clause-leads
go_on-requires-clause-leads g c κs within =
    let means = g.M.Means.means in let cs = drawn c.args.at.now.mark.log in let run = c.args.run in
    let x = run.mutation in let start = run_start cs run in let (last, ticket, pull, r) = c.requires.run in
    let after = after_pull (state_at c.args.at.now) pull in let rest = reverse run.behind.items in (
      after,
      replayed means start (x ∷ []),
      subst (λ (ys : List Mutation). Leads means cs after run.chain ys rest (replayed means start (x ∷ [])))
          (sym c.in_ok-push.ensures.items) (leads_on means cs after run.chain run.ran.items (x ∷ [])
          (x ∷ rest) rest start
          refl r.leads),
      c.in_ok-tree.ensures.left (meaning_of means x start) c.requires.ran,
    )

pub returns-clause-step : goal.returns-clause-step
returns-clause-step g c last ticket pull r =
    let means = g.M.Means.means in let cs = drawn c.args.at.now.mark.log in let run = c.args.run in
    let x = run.mutation in let start = run_start cs run in
    let after = after_pull (state_at c.args.at.now) pull in let rest = reverse run.behind.items in
    c.go_on.ensures.step last ticket pull (replayed means start (x ∷ [])) r.judged.0
    (subst (λ (ys : List Mutation). Leads means cs after run.chain ys rest (replayed means start (x ∷ [])))
    (sym c.in_ok-push.ensures.items) (leads_on means cs after run.chain run.ran.items (x ∷ []) (x ∷ rest) rest start
    refl r.leads)) r.judged.1 (c.in_ok-tree.ensures.left (meaning_of means x start) c.requires.ran)

pub returns-clause-behind : goal.returns-clause-behind
returns-clause-behind g c =
    let has = g.M.Has.has in let means = g.M.Means.means in let cs = drawn c.args.at.now.mark.log in
    let run = c.args.run in let x = run.mutation in let start = run_start cs run in
    let meaning = meaning_of means x start in
    behind_of_on has means cs run c.args.ran c.go_on.result (subst (λ (m : Entries). IfOk c.go_on.result
    (IsOn has means cs (reverse run.behind.items) m)) (left_is meaning c.args.ran (run_map cs run) start c.requires.ran)
    (c.go_on.ensures.next (replayed means start (x ∷ [])) (c.in_ok-tree.ensures.left meaning c.requires.ran)))
