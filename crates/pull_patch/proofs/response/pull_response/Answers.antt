use Rattle.std.proofs.Common.{sym, ◌∙◌}
use Rattle.std.proofs.lemmas.Result.{err_from_is_err_and}
use Rattle.serde_json.specs.View.{view}
use Rattle.pull_patch.proofs.Joins.{Refuses-through, cookie-refused, changes-refused, patch-refused, fields-joined}
use Rattle.pull_patch.proofs.Joins.{AnswersOrNoMemory-is}
use Rattle.pull_patch.proofs.response.pull_response.Goals as goal

pub returns-in_err-read_cookie : goal.returns-in_err-read_cookie
returns-in_err-read_cookie c =
    let p = err_from_is_err_and c.from_residual.result c.from_residual.ensures.1 in
    rw (p.1, p.2) (Refuses-through _ _ _ (cookie-refused (view c.args.value.now)) c.in_err-read_cookie.ensures)

pub returns-in_err-read_changes : goal.returns-in_err-read_changes
returns-in_err-read_changes c =
    let p = err_from_is_err_and c.from_residual-in_err-read_changes.result
    c.from_residual-in_err-read_changes.ensures.1 in
    rw (p.1, p.2) (Refuses-through _ _ _ (changes-refused (view c.args.value.now)) c.in_err-read_changes.ensures.value)

pub returns-in_err-read_patch : goal.returns-in_err-read_patch
returns-in_err-read_patch c =
    let p = err_from_is_err_and c.from_residual-in_err-read_patch.result c.from_residual-in_err-read_patch.ensures.1 in
    rw (p.1, p.2) (Refuses-through _ _ _ (patch-refused (view c.args.value.now)) c.in_err-read_patch.ensures)

pub returns : goal.returns
returns c =
    AnswersOrNoMemory-is _ _ (c.joined.ensures ∙ sym
    (fields-joined (view c.args.value.now) _ _ _ c.in_ok-read_cookie.ensures c.in_ok-read_changes.ensures.value
    c.in_ok-read_patch.ensures))
