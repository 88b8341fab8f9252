use Rattle.std.proofs.Common.{◌≡◌, ◌∷◌, ap, ◌∙◌}
use Rattle.json.specs.Token.{Token}
use Rattle.json.specs.Json.{value}
use Rattle.json.proofs.Grammar.{value_is}
use Rattle.serde_json.specs.Read.{of_json, converted}
use Rattle.pull_patch.proofs.plain.values.read_text.Goals as goal

pub returns-in-Some-String-clause-read : goal.returns-in-Some-String-clause-read
returns-in-Some-String-clause-read c depth =
    let is : c.args.reader.now ≡ Token.string c.in-Some-String.text.now
    ∷ c.next.new.self = rw (c.in-Some-String.field-0-is) at c.in-Some-String.ensures.value in
    ap (λ ts. converted of_json (value depth ts)) is ∙ ap (converted of_json) (value_is depth _)
