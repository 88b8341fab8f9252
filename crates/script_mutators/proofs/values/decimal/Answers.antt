use Rattle.std.proofs.Common.{◌∙◌, ap, arith}
use Rattle.std.proofs.lemmas.Int.{to_z-of_z}
use Rattle.std.specs.Fmt.{signed_decimal}
use mir.Syntax.{w64}
use Rattle.script_mutators.proofs.PlainTexts.{json_text-whole}
use Rattle.script_mutators.proofs.values.decimal.Goals as goal

pub of_compact-requires : goal.of_compact-requires
of_compact-requires c =
    let z = c.args.number in
    let is = c.format.ensures.text ∙ ap signed_decimal (to_z-of_z w64 z c.ranges.number) in
    json_text-whole c.format.result.now z c.format.utf8 is (omega arith)
