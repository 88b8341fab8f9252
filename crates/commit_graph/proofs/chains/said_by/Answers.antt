use Rattle.std.proofs.Common.{reverse, ap, sym, subst, ◌∙◌}
use Rattle.std.proofs.lemmas.List.{append-nil}
use Rattle.group_history.specs.Pulling.{overwritten}
use Rattle.group_history.specs.Spelling.{said_id}
use Rattle.commit_graph.specs.Inside.Telling.{IsLastOf}
use Rattle.commit_graph.proofs.Gathering.{older_known}
use Rattle.commit_graph.proofs.chains.said_by.Goals as goal

pub returns-then-ends_with : goal.returns-then-ends_with
returns-then-ends_with c ids =
    let newer = c.args.newer.now in
    let last = subst (λ m. IsLastOf m.client newer) c.fields.ensures (c.ends_with.ensures c.if-ends_with.true) in
    older_known newer (said_id c.args.mutation.now) last ids
    ∙ ap (λ w. overwritten ids (reverse w)) (sym (append-nil newer))
