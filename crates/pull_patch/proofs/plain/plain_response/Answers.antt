use Rattle.std.proofs.Common.{◌≡◌, ◌∙◌, ap, subst}
use Rattle.std.proofs.lemmas.Result.{IfOk-weaker}
use Rattle.json.specs.Lex.{tokens}
use Rattle.pull_patch.specs.Inside.Plain.{ReadsBody}
use Rattle.pull_patch.proofs.PlainResponses.{answer_read}
use Rattle.pull_patch.proofs.plain.plain_response.Goals as goal

pub returns : goal.returns
returns c =
    let is : c.in_ok-reader.reader ≡ tokens c.args.bytes.now = c.in_ok-reader.ensures.ok ∙ ap tokens
    c.in-Ok.ensures.cases.0 in
    IfOk-weaker c.read_body.result _ _ (λ r h. answer_read c.args.bytes.now r c.in-Ok.ensures.cases.1
    (subst (λ ts. ReadsBody ts r) is h)) c.read_body.ensures
