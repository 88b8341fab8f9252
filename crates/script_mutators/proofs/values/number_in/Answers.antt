use Rattle.std.proofs.Common.{arith, Some, option_and_then, ap, ◌∙◌}
use Rattle.std.proofs.lemmas.Int.{to_z-of_z}
use mir.Syntax.{w64}
use Rattle.group_history.specs.Meaning.{value_of}
use Rattle.script_mutators.specs.Mutators.{number_of}
use Rattle.script_mutators.proofs.PlainTexts.{number_at-plain}
use Rattle.script_mutators.proofs.values.number_in.Goals as goal

pub returns-in-Some-clause-ok : goal.returns-in-Some-clause-ok
returns-in-Some-clause-ok c =
    let z = c.in-Some.number in
    let is = c.in-Some.ensures in
    ap Some (to_z-of_z w64 z (record { sfits = omega (arith, is.1) }))
    ∙ number_at-plain c.text.result.now z c.text.utf8 is.0 is.1
    ∙ ap (λ s. option_and_then number_of (value_of s)) c.text.ensures
