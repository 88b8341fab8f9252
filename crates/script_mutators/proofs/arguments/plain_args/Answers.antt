use Rattle.std.proofs.Common.{rules, ◌≡◌, ◌∷◌, ◌++◌, [], Some, arith, sym, ap, ◌∙◌}
use Rattle.std.proofs.lemmas.Int.{to_z-of_z}
use Rattle.std.proofs.lemmas.Str.{IsCharBoundary-after_ascii}
use mir.Syntax.{w64}
use Rattle.serde_json.specs.Data.{string, array, no_items, item}
use Rattle.script_mutators.specs.Inside.Arguments.{integer}
use Rattle.script_mutators.proofs.Cuts.{cut_key}
use Rattle.script_mutators.proofs.PlainTexts.{value_of-alone, value_of-both, written-whole, written-text}
use Rattle.script_mutators.proofs.arguments.plain_args.Goals as goal

pub range_from-requires : goal.range_from-requires
range_from-requires c p = IsCharBoundary-after_ascii c.args.text.now 1 c.utf8.text (search rules) (search rules)

pub returns-then-eq-clause-value : goal.returns-then-eq-clause-value
returns-then-eq-clause-value c =
    let text = c.args.text.now in
    let key = c.in_ok-key.key.now in
    let after = c.range_from.result.now in
    let rest = c.in_ok-key.rest.now in
    let is = c.in_ok-key.ensures in
    let front =
    cut_key text after key rest (search rules) (search rules) (search rules) c.range_from.ensures.value is.0 in
    let last : rest ≡ 93 ∷ [] = search rules in
    value_of-alone text key c.utf8.text (front ∙ ap (λ s. 91 ∷ 34 ∷ (key ++ 34 ∷ s)) last) is.1

pub returns-in-Some-clause-value : goal.returns-in-Some-clause-value
returns-in-Some-clause-value c =
    let text = c.args.text.now in
    let key = c.in_ok-key.key.now in
    let after = c.range_from.result.now in
    let rest = c.in_ok-key.rest.now in
    let is = c.in_ok-key.ensures in
    let front =
    cut_key text after key rest (search rules) (search rules) (search rules) c.range_from.ensures.value is.0 in
    let same = front ∙ ap (λ s. 91 ∷ 34 ∷ (key ++ 34 ∷ s)) c.in_ok-value.ensures in
    let other = c.in_ok-value.value.now in
    let z = c.in-Some.number in
    let number = c.in-Some.ensures in
    let same_number = to_z-of_z w64 z (record { sfits = omega (arith, number.1) }) in
    value_of-both text key other (integer z) c.utf8.text same is.1 (written-whole other z number.0 number.1)
    ∙ ap (λ y. Some (array (item (string key) (item (integer y) no_items)))) (sym same_number)

pub returns-clause-value : goal.returns-clause-value
returns-clause-value c =
    let text = c.args.text.now in
    let key = c.in_ok-key.key.now in
    let after = c.range_from.result.now in
    let rest = c.in_ok-key.rest.now in
    let is = c.in_ok-key.ensures in
    let front =
    cut_key text after key rest (search rules) (search rules) (search rules) c.range_from.ensures.value is.0 in
    let same = front ∙ ap (λ s. 91 ∷ 34 ∷ (key ++ 34 ∷ s)) c.in_ok-value.ensures in
    let other = c.in_ok-value.value.now in
    let added = c.in_ok-plain_text.field-0.now in
    value_of-both text key other (string added) c.utf8.text same is.1
    (written-text other added c.in_ok-plain_text.ensures)
