-- Digits that are written as they stand.
use Rattle.std.proofs.Common.{◌≡◌, ℕ, zero, suc, pos, ◌^◌, ◌<◌, ◌≤◌, List, [], ◌∷◌, length, get_or, refl, sym}
use Rattle.std.proofs.Common.{Option, Some, None, is_some, IfSome, IsTrue}
use Rattle.std.proofs.Common.{ap, ◌∙◌, subst, arith, decimal, slice_index}
use Rattle.std.proofs.lemmas.Fmt.{decimal-digits_value}
use Rattle.std.proofs.lemmas.Str.Parse.{numerals_by_value, tells_digits}
use Rattle.std.proofs.lemmas.Bool.{ne_eqb}
use Rattle.std.specs.Fmt.{digits}
use Rattle.std.specs.Prelude.{neg_ℤ, FitsSigned}
use Rattle.std.specs.Int.{w64}
use Rattle.std.specs.Str.Parse.{IsNumeral, digits_value, signed_digits_value, without_leading_plus}
use Rattle.std.specs.Str.Parse.{without_leading_sign}
use Rattle.serde_json.specs.Data.{unsigned}
use Rattle.serde_json.specs.Find.{of_integer}
use Rattle.serde_json.specs.View.{number_view}
use Rattle.serde_json.specs.declared.number.Number.{Number}
use Rattle.serde_json.specs.Read.{number_of}
use Rattle.serde_json.proofs.Numbers.{number_of-decimal, number_of-negative}
use Rattle.pull_patch.specs.Inside.Copies.{IsNumberText, IsPlainNumber}

pub IsNumberText-zero : IsNumberText (48 ∷ []) (unsigned 0)
unfolding digits
IsNumberText-zero = record { reads = number_of-decimal 0 (omega arith); same = refl; whole = refl }

digits_as_written : (s : List ℕ) → IsNumeral 10 s → digits_value 10 s < 2 ^ 64 → (get_or s 0 0 ≡ 48 → length s ≡ 1)
    → IsNumberText s (unsigned (digits_value 10 s))
digits_as_written s h small alone =
    let spelled = decimal-digits_value (numerals_by_value _ tells_digits) s h.1 h.0 alone small in
    record {
      reads = ap number_of (sym spelled) ∙ number_of-decimal (digits_value 10 s) small;
      same = spelled;
      whole = refl;
    }

no_plus : (s : List ℕ) → 49 ≤ slice_index s 0 → without_leading_plus s ≡ s
no_plus s h = rw (ne_eqb (slice_index s 0) 43 (λ e. omega arith)) refl

-- a first digit from 1 on
pub IsNumberText-digits : (s : List ℕ) → 49 ≤ slice_index s 0
    → IsNumeral 10 (without_leading_plus s) × (digits_value 10 (without_leading_plus s) < 2 ^ 64)
    → IsNumberText s (unsigned (digits_value 10 (without_leading_plus s)))
IsNumberText-digits s first h =
    let same = no_plus s first in
    let k = rw same at h in
    rw same (digits_as_written s k.0 k.1 (λ zero. absurd (omega arith)))

-- ---- below zero

first_of : (ds : List ℕ) → decimal 0 ≡ ds → get_or ds 0 0 ≡ 48
unfolding digits
first_of ds e = ap (λ (xs : List ℕ). get_or xs 0 0) (sym e)

minus_at : (n : ℕ) (ds : List ℕ) → decimal n ≡ ds → 49 ≤ get_or ds 0 0 → FitsSigned w64 (neg_ℤ (pos n))
    → IsNumberText (45 ∷ ds) (of_integer (neg_ℤ (pos n)))
minus_at zero ds e first fits = absurd (omega (arith, first_of ds e))
minus_at (suc m) ds e first fits =
    let same : 45 ∷ decimal (suc m) ≡ 45 ∷ ds = ap (λ (xs : List ℕ). 45 ∷ xs) e in
    record {
      reads = ap number_of (sym same) ∙ number_of-negative m (omega arith);
      same = same;
      whole = refl;
    }

least : (n : ℕ) → FitsSigned w64 (neg_ℤ (pos n)) → n < 2 ^ 64
least zero fits = omega arith
least (suc m) fits = omega arith

minus_digits : (ds : List ℕ) → 49 ≤ get_or ds 0 0 → IsNumeral 10 ds → FitsSigned w64 (neg_ℤ (pos (digits_value 10 ds)))
    → IsNumberText (45 ∷ ds) (of_integer (neg_ℤ (pos (digits_value 10 ds))))
minus_digits ds first h fits =
    minus_at (digits_value 10 ds) ds (decimal-digits_value (numerals_by_value _ tells_digits) ds h.1 h.0
    (λ zero. absurd (omega arith)) (least _ fits)) first fits

-- a minus, and a first digit from 1 on
pub IsNumberText-minus : (s : List ℕ) → slice_index s 0 ≡ 45 → 49 ≤ slice_index s 1
    → IsNumeral 10 (without_leading_sign s) × FitsSigned w64 (signed_digits_value 10 s)
    → IsNumberText s (of_integer (signed_digits_value 10 s))
IsNumberText-minus [] minus first h = absurd (omega arith)
IsNumberText-minus (x ∷ ds) minus first h =
    let k = subst (λ (y : ℕ). IsNumeral 10 (without_leading_sign (y ∷ ds))
    × FitsSigned w64 (signed_digits_value 10 (y ∷ ds))) minus h in
    subst (λ (y : ℕ). IsNumberText (y ∷ ds) (of_integer (signed_digits_value 10 (y ∷ ds)))) (sym minus)
    (minus_digits ds first k.0 k.1)

-- ---- of a number that was read

pub IsPlainNumber-some : (s : List ℕ) (o : Option Number) → IfSome o (λ n. IsNumberText s (number_view n))
    → IsTrue (is_some o) → IsPlainNumber s
IsPlainNumber-some s None h e = absurd (cc)
IsPlainNumber-some s (Some n) h e = record { num = number_view n; reads = h.reads; same = h.same; whole = h.whole }
