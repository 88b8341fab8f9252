use Rattle.std.proofs.Common.{rules, ◌≡◌, ℕ, List, [], ◌++◌, ap₂, ◌∙◌}
use Rattle.json.specs.Token.{string}
use Rattle.push_body.proofs.Writings.{print-first}
use Rattle.push_body.proofs.quoted.escaped.Goals as goal

pub returns : goal.returns
returns c =
    let nothing : c.string.new.self.before ≡ [] = search rules in
    let printed = print-first c.new-writer.result c.string.new.self
    (string c.args.text.now) c.new-writer.ensures.tokens c.in_ok-string.ensures.ok in
    c.into_inner.ensures.items ∙ ap₂ (λ (s t : List ℕ). s ++ t) nothing printed
