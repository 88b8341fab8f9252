use Rattle.std.proofs.Common.{◌<◌, ◌^◌, ℕ, sym, ap, subst, ◌∙◌}
use Rattle.group_history.specs.Refs.{stamp_of}
use Rattle.group_history.specs.Spelling.{Contents, version_at, version_of}
use Rattle.head_word.specs.Books.{drawn}
use Rattle.commit_graph.proofs.Few.{last_id-small}
use Rattle.change_tries.specs.Places.{HeadPlace, state_at}
use Rattle.change_tries.proofs.views.last_known.Goals as goal

pub returns-clause-id : goal.returns-clause-id
returns-clause-id g c =
    let p = c.args.at.now in let is = c.nodes-nodes.ensures.is in
    let commit = ap (λ (q : HeadPlace). q.commit) c.at.view_is in
    let here = ap (λ (cs : Contents). version_at cs (stamp_of c.at.inside.commit)) c.nodes-nodes.ensures.nodes
    ∙ ap (λ r. version_at (drawn p.mark.log) (stamp_of r)) commit ∙ is.base in
    c.in_ok-last_id_since.ensures.id (version_of g.M.Means.means (state_at p)) here

pub returns-clause-low : goal.returns-clause-low
returns-clause-low g c =
    let means = g.M.Means.means in let p = c.args.at.now in let is = c.nodes-nodes.ensures.is in
    let v = version_of means (state_at p) in
    let commit = ap (λ (q : HeadPlace). q.commit) c.at.view_is in
    let here = ap (λ (cs : Contents). version_at cs (stamp_of c.at.inside.commit)) c.nodes-nodes.ensures.nodes
    ∙ ap (λ r. version_at (drawn p.mark.log) (stamp_of r)) commit ∙ is.base in
    subst (λ (n : ℕ). n < 2 ^ 53) (sym (c.in_ok-last_id_since.ensures.id v here))
    (last_id-small (drawn p.mark.log) p.commit c.args.client.now v is.low is.base is.ids)
