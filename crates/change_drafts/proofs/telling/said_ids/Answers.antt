use Rattle.std.proofs.Common.{◌++◌, ◌∷◌, List, map, refl, sym, ap, ◌∙◌}
use Rattle.group_history.specs.Pulling.{overwritten}
use Rattle.group_history.specs.Spelling.{said_id}
use Rattle.group_history.specs.declared.mutations.MutationFields.{MutationFields as Mutation}
use Rattle.change_drafts.proofs.StateLemmas.{said_later}
use Rattle.change_drafts.proofs.telling.said_ids.Goals as goal

pub loop-mutation-preserved : goal.loop-mutation-preserved
loop-mutation-preserved c ids =
    let next = c.if-not-begins_with.ensures refl in let said = c.loop-mutation.said.items in
    let x = c.in-Some.mutation.now in
    ap (λ (w : List Mutation). overwritten ids (said ++ map said_id w)) next.2
    ∙ said_later ids said x next.0 next.1 (next.3 ∙ ap (λ (m : Mutation). m.client) c.fields.ensures)
    ∙ ap (λ (w : List Mutation). overwritten ids (said ++ map said_id (x ∷ w))) (sym next.2)
    ∙ ap (λ (w : List Mutation). overwritten ids (said ++ map said_id w)) (sym c.in-Some.ensures.cases.0)
    ∙ c.loop-mutation.invariant ids
