use Rattle.std.proofs.Common.{ap, ◌∙◌}
use Rattle.group_history.specs.Refs.{stamp_of}
use Rattle.group_history.specs.Spelling.{Contents, last_ids, version_at, version_of}
use Rattle.group_history.proofs.Telling.{same_ids-Decides}
use Rattle.head_word.specs.Books.{drawn}
use Rattle.change_tries.specs.Places.{HeadPlace, state_at}
use Rattle.change_tries.proofs.views.told_if.Goals as goal

pub returns-clause-right : goal.returns-clause-right
returns-clause-right g c =
    let p = c.args.at.now in let is = c.nodes-nodes.ensures.is in let ids = c.in_ok-last_ids_at.field-0 in
    let commit = ap (λ (q : HeadPlace). q.commit) c.at.view_is in
    let here = ap (λ (cs : Contents). version_at cs (stamp_of c.at.inside.commit)) c.nodes-nodes.ensures.nodes
    ∙ ap (λ r. version_at (drawn p.mark.log) (stamp_of r)) commit ∙ is.base in
    (same_ids-Decides ids (last_ids (state_at p))).1
    (c.in_ok-last_ids_at.ensures.ids (version_of g.M.Means.means (state_at p)) here)
