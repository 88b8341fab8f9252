use Rattle.std.proofs.Common.{◌≡◌, ◌∷◌, ◌∙◌, ap, arith}
use Rattle.std.proofs.lemmas.Result.{IfOk-weaker}
use Rattle.json.specs.Token.{Token}
use Rattle.json.specs.Json.{value}
use Rattle.serde_json.specs.Data.{object}
use Rattle.serde_json.specs.Read.{of_json, converted}
use Rattle.pull_patch.proofs.Turns.{object_read}
use Rattle.pull_patch.proofs.plain.puts.read_operation.Goals as goal

pub returns-clause-read : goal.returns-clause-read
returns-clause-read c =
    let first : c.args.reader.now ≡ Token.begin_object
    ∷ c.next.new.self = rw (c.in-Some-BeginObject.field-0-is) at c.in-Some-BeginObject.ensures.value in
    let f = c.in_ok-found.ensures.read in
    IfOk-weaker c.operation_of.result _ _ (λ p h. record {
      tree = object f.tree;
      reads = ap (λ ts. converted of_json (value 125 ts)) first ∙ object_read 125 c.next.new.self
          c.read_fields.new.reader f.tree (omega arith) f.reads;
      says = h f.tree f.found;
    }) c.operation_of.ensures
