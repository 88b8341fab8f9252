use Rattle.std.proofs.Common.{◌≡◌, [], ◌∷◌, ◌∙◌, ap, arith}
use Rattle.std.proofs.lemmas.Result.{IfOk-weaker}
use Rattle.json.specs.Token.{Token}
use Rattle.json.specs.Json.{value}
use Rattle.serde_json.specs.Data.{object}
use Rattle.serde_json.specs.Read.{of_json, converted}
use Rattle.pull_patch.specs.Inside.Plain.{ReadsValue}
use Rattle.pull_patch.proofs.Turns.{object_read}
use Rattle.pull_patch.proofs.plain.read_body.Goals as goal

pub returns : goal.returns
returns c =
    let first : c.args.reader.now ≡ Token.begin_object
    ∷ c.next.new.self = rw (c.in-Some-BeginObject.field-0-is) at c.in-Some-BeginObject.ensures.value in
    let p = c.in_ok-parts.ensures in
    let last : c.read_parts.new.reader ≡ [] = c.in-None.ensures.value.0 in
    let whole : ReadsValue 127 c.args.reader.now (object p.tree) [] = rw (← last)
    (ap (λ ts. converted of_json (value 127 ts)) first ∙ object_read 127 c.next.new.self c.read_parts.new.reader
    p.tree (omega arith) p.reads) in
    IfOk-weaker c.response_of.result _ _ (λ r h. record { tree = p.tree; reads = whole; is = h p.tree p.parts })
    c.response_of.ensures
