use Rattle.std.proofs.Common.{◌≡◌, ◌∷◌, ◌∙◌, ap, arith}
use Rattle.std.proofs.lemmas.Result.{IfOk-weaker}
use Rattle.json.specs.Token.{Token}
use Rattle.json.specs.Json.{value}
use Rattle.serde_json.specs.Read.{of_json, converted}
use Rattle.pull_patch.proofs.Turns.{array_read}
use Rattle.pull_patch.proofs.plain.puts.read_patch.Goals as goal

pub returns-clause-read : goal.returns-clause-read
returns-clause-read c =
    let first : c.args.reader.now ≡ Token.begin_array
    ∷ c.next.new.self = rw (c.in-Some-BeginArray.field-0-is) at c.in-Some-BeginArray.ensures.value in
    IfOk-weaker c.read_operations.result _ _ (λ v h. record {
      tree = h.tree;
      reads = ap (λ ts. converted of_json (value 126 ts)) first ∙ array_read 126 c.next.new.self
          c.read_operations.new.reader h.tree (omega arith) h.reads;
      say = h.say;
    }) c.read_operations.ensures.read
