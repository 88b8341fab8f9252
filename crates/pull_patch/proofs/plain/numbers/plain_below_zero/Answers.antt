use Rattle.std.proofs.Common.{List, ℕ, subst, slice_index, ◌≤◌, ◌≡◌, ap, sym, ◌∙◌}
use Rattle.std.proofs.lemmas.Int.{to_z-of_z}
use Rattle.std.specs.Prelude.{FitsSigned as SFits}
use Rattle.std.specs.Int.{w64}
use Rattle.std.specs.Str.Parse.{signed_digits_value}
use Rattle.serde_json.specs.Find.{of_integer}
use Rattle.serde_json.specs.View.{number_view}
use Rattle.pull_patch.proofs.PlainNumbers.{IsNumberText-minus}
use Rattle.pull_patch.proofs.plain.numbers.plain_below_zero.Goals as goal

pub returns-in-Ok : goal.returns-in-Ok
returns-in-Ok c =
    let first : 49 ≤ slice_index c.args.text.now 1 = subst
    (λ (s : List ℕ). 49 ≤ slice_index s 1) c.as_bytes-bytes.ensures.value c.if-bytes-lt49.false in
    let z = signed_digits_value 10 c.args.text.now in
    let is : number_view c.from.result ≡ of_integer z = c.from.ensures ∙ ap of_integer
    (to_z-of_z w64 c.in-Ok.number (subst (SFits w64) (sym c.in-Ok.ensures.value.1) c.in-Ok.ensures.value.0.1)
    ∙ c.in-Ok.ensures.value.1) in
    rw is (IsNumberText-minus c.args.text.now c.requires first c.in-Ok.ensures.value.0)
