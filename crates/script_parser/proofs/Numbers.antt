-- Numbers in decimal digits.
use Rattle.std.proofs.Common.{◌≡◌, ◌<◌, ◌≤◌, ◌^◌, inl, inr, ℕ, true, false, List, length, arith}
use Rattle.std.specs.Str.{all_ascii_digits}
use Rattle.std.specs.Str.Parse.{digits_value}
use Rattle.std.proofs.lemmas.Bool.{and_parts, cases_lt}
use Rattle.std.proofs.lemmas.Bool.Decides.{nat_tests}
use Rattle.std.proofs.lemmas.Str.Parse.{IsNumeralModel, numerals_by_value, tells_all_ascii_digits}
use Rattle.script_parser.specs.Words.{is_decimal, is_number}

pub own : IsNumeralModel (λ ds. all_ascii_digits ds ≡ true) (digits_value 10)
own = numerals_by_value _ tells_all_ascii_digits

pub digits : (t : List ℕ) → is_decimal t ≡ true → all_ascii_digits t ≡ true
unfolding is_decimal
digits t decimal = (and_parts _ _ decimal).1

some_digits : (t : List ℕ) → is_decimal t ≡ true → 0 < length t
unfolding is_decimal
some_digits t decimal = grind (arith, nat_tests)

pub is_number-in : (low high : ℕ) (t : List ℕ) → is_decimal t ≡ true → low ≤ digits_value 10 t
    → digits_value 10 t ≤ high → is_number low high t ≡ true
unfolding is_number
is_number-in low high t decimal above below = grind (arith, nat_tests)

pub is_number-below : (low high : ℕ) (t : List ℕ) → digits_value 10 t < low → is_number low high t ≡ false
unfolding is_number
is_number-below low high t below = grind (arith, nat_tests)

pub is_number-above : (low high : ℕ) (t : List ℕ) → high < digits_value 10 t → is_number low high t ≡ false
unfolding is_number
is_number-above low high t above = grind (arith, nat_tests)

pub is_number-unread : (low high : ℕ) (t : List ℕ) → is_decimal t ≡ true → high < 2 ^ 64
    → ((0 < length t) × (digits_value 10 t < 2 ^ 64) → ⊥) → is_number low high t ≡ false
is_number-unread low high t decimal fits never =
    elim (cases_lt (digits_value 10 t) (2 ^ 64)) [
      | inl small ↦ absurd (never (some_digits t decimal, small))
      | inr large ↦ is_number-above low high t (omega arith)
    ]
