use Rattle.std.proofs.Common.{List, ℕ, [], ◌∷◌, ◌∙◌, subst, sym, slice_index, ◌≤◌, ◌≡◌}
use Rattle.std.proofs.lemmas.Slice.Eq.{bytes_eq-Decides}
use Rattle.pull_patch.proofs.PlainNumbers.{IsNumberText-zero, IsNumberText-digits}
use Rattle.pull_patch.proofs.plain.numbers.plain_number.Goals as goal

pub returns-then-is_word : goal.returns-then-is_word
returns-then-is_word c =
    let is : c.args.text.now ≡ 48 ∷ [] = (bytes_eq-Decides c.args.text.now (48 ∷ [])).0
    (sym c.is_word.ensures ∙ c.if-is_word.true) in
    rw (c.from.ensures, is) IsNumberText-zero

pub returns-in-Ok : goal.returns-in-Ok
returns-in-Ok c =
    let first : 49 ≤ slice_index c.args.text.now 0 = subst
    (λ (s : List ℕ). 49 ≤ slice_index s 0) c.as_bytes-bytes.ensures.value c.if-bytes-lt49.false in
    rw (c.from-in-Ok.ensures, c.in-Ok.ensures.value.1)
    (IsNumberText-digits c.args.text.now first c.in-Ok.ensures.value.0)
