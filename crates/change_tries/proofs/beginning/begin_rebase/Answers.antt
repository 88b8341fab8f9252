use Rattle.std.proofs.Common.{ap, ◌∙◌}
use Rattle.group_history.specs.Refs.{stamp_of}
use Rattle.group_history.specs.Spelling.{Contents, version_at, version_of}
use Rattle.head_word.specs.Books.{drawn}
use Rattle.change_tries.specs.Places.{HeadPlace, state_at}
use Rattle.change_tries.proofs.beginning.begin_rebase.Goals as goal

pub begin_replayed-requires-clause-left : goal.begin_replayed-requires-clause-left
begin_replayed-requires-clause-left g c κs within =
    let p = c.args.at.now in
    let commit = ap (λ (q : HeadPlace). q.commit) c.at.view_is in
    let here = ap (λ (cs : Contents). version_at cs (stamp_of c.at.inside.commit)) c.nodes.ensures.nodes
    ∙ ap (λ r. version_at (drawn p.mark.log) (stamp_of r)) commit ∙ c.nodes.ensures.is.base in
    c.in_ok-left.ensures.left (version_of g.M.Means.means (state_at p)) here
