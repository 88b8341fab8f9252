use Rattle.std.proofs.Common.{◌≡◌, [], ◌∷◌, Some, sym, ap, rules, subst, ◌∙◌}
use Rattle.group_history.specs.declared.mutations.MutationFields.{MutationFields as Mutation}
use Rattle.group_history.specs.Meaning.{meaning_of}
use Rattle.group_history.specs.Spelling.{Contents}
use Rattle.group_history.specs.State.{view_of}
use Rattle.head_word.specs.Books.{drawn}
use Rattle.map_chunks.specs.Drafts.{Drafted}
use Rattle.map_chunks.specs.Places.{with_nodes}
use Rattle.map_chunks.proofs.NeededLemmas.{needed_begun}
use Rattle.map_tree.specs.Trees.{tree_map}
use Rattle.change_drafts.specs.Chaining.{IsTip}
use Rattle.change_drafts.specs.Running.{HasRun, MayRun}
use Rattle.change_drafts.specs.declared.runs.OwnRun.{OwnRun}
use Rattle.change_tries.specs.Places.{state_at}
use Rattle.change_tries.specs.declared.runs.Chain.{Chain}
use Rattle.change_tries.proofs.Drafting.{behind_none}
use Rattle.change_tries.proofs.Running.{step_new}
use Rattle.change_tries.proofs.beginning.begin_next.Goals as goal

pub end_new-requires-clause-ran : goal.end_new-requires-clause-ran
end_new-requires-clause-ran g c κs within =
    let means = g.M.Means.means in let x = c.args.mutation.now in let m = view_of means (state_at c.args.at.now) in
    let cs = drawn c.args.at.now.mark.log in let draft = c.new-draft.result in let run = c.in-Ran.run' in
    let bare : with_nodes cs draft.nodes ≡ cs = ap (λ (d : Drafted). with_nodes cs d.nodes) c.new-draft.ensures
    ∙ behind_none cs in
    let again : c.in_ok-clone-in-Ran.field-0 ≡ x = search rules in
    let ran = (subst (λ (w : OwnRun). MayRun cs (g.M.Has.has x.name) (meaning_of means x m) m w) c.in-Ran.is
    c.in_ok-own.ensures.ran).1 in
    subst (λ (y : Mutation). HasRun (with_nodes cs draft.nodes) (meaning_of means y m) run) (sym again)
    (subst (λ (w : Contents). HasRun w (meaning_of means x m) run) (sym bare) ran)

pub returns-in_ok-asked_new-in-Lacks-clause-step : goal.returns-in_ok-asked_new-in-Lacks-clause-step
returns-in_ok-asked_new-in-Lacks-clause-step g c =
    let means = g.M.Means.means in let has = g.M.Has.has in let at = c.args.at.now in let x = c.args.mutation.now in
    let s = state_at at in let m = view_of means s in let cs = drawn at.mark.log in let spot = c.args.spot in
    let tip = spot.tip in let draft = c.new-draft.result in let tree = c.in-Lacks.tree in
    let chain : Chain = record { draft = draft; tip = tip; tells = spot.tells } in
    let bare : with_nodes cs draft.nodes ≡ cs = ap (λ (d : Drafted). with_nodes cs d.nodes) c.new-draft.ensures
    ∙ behind_none cs in
    let may = subst (λ (w : OwnRun). MayRun cs (has x.name) (meaning_of means x m) m w) c.in-Lacks.is
    c.in_ok-own.ensures.ran in
    step_new has means cs at.commit s c.args.last x chain tree c.in_ok-asked_new-in-Lacks.field-0 (record {
      first = sym c.requires.spot.drawn ∙ sym (ap (λ (d : Drafted). d.first) c.new-draft.ensures);
      needed = needed_begun (tip.commit ∷ []) tip.commit spot.first draft draft c.new-draft.ensures (λ others h. h);
      tip = subst (λ (w : Contents). IsTip means w tip s) (sym bare) c.requires.spot.stands;
      next = c.requires.next;
    }) may.0 (subst (λ (w : Contents). tree_map w tree ≡ Some m) (sym bare) may.1)
    c.in_ok-asked_new-in-Lacks.ensures.step
