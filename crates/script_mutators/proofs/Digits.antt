-- Digits that are read from the first to the last.
use Rattle.std.proofs.Common.{◌≡◌, ℕ, zero, suc, ◌+◌, ◌-◌, ◌*◌, ◌/◌, ◌%◌, ◌<◌, ◌≤◌, ◌^◌, List, [], ◌∷◌, ◌++◌, length}
use Rattle.std.proofs.Common.{take, get_or, decimal, refl, sym, ap, ap₂, ◌∙◌, arith}
use Rattle.std.proofs.lemmas.Fmt.{decimal_digit, decimal_step}
use Rattle.std.proofs.lemmas.List.{take_more}

-- the number that the first i bytes are
pub record IsReadTo (text : List ℕ) (i number : ℕ) : Type 0 where
  pub low : number < 10 ^ 18
  pub none : i ≡ 0 → number ≡ 0
  pub read : 0 < i → decimal number ≡ take i text
  pub some : 0 < i → i < length text → 0 < number

one_more : (text : List ℕ) (i byte : ℕ) → i < length text → byte ≡ get_or text i 0
    → take i text ++ byte ∷ [] ≡ take (i + 1) text
one_more text i byte inside is = ap (λ b. take i text ++ b ∷ []) is ∙ sym (take_more text i 0 inside)

-- one digit more
pub digit_read : (text : List ℕ) (i number byte : ℕ) → (get_or text 0 0 ≡ 48 → length text ≡ 1) → i < length text
    → byte ≡ get_or text i 0 → 48 ≤ byte → byte ≤ 57 → number < 10 ^ 17
    → IsReadTo text i number → IsReadTo text (i + 1) (number * 10 + (byte - 48))
digit_read text zero number byte leads inside is low high few r =
    let nothing : number ≡ 0 = r.none refl in
    let digit : number * 10 + (byte - 48) ≡ byte - 48 = omega (arith, nothing) in
    let back : 48 + (byte - 48) ≡ byte = omega arith in
    record {
      low = omega arith;
      none = λ e. absurd (omega arith);
      read = λ p. ap decimal digit ∙ decimal_digit (byte - 48) (omega arith) ∙ ap (λ b. b ∷ []) back
          ∙ one_more text 0 byte inside is;
      some = λ p more. grind (arith, leads, is);
    }
digit_read text (suc i) number byte leads inside is low high few r =
    let more = number * 10 + (byte - 48) in
    let before : more / 10 ≡ number = omega arith in
    let last : 48 + more % 10 ≡ byte = omega arith in
    let some : 0 < number = r.some (omega arith) inside in
    record {
      low = omega arith;
      none = λ e. absurd (omega arith);
      read = λ p. decimal_step more (omega arith) (omega arith) ∙ ap₂ (λ (n b : ℕ). decimal n ++ b ∷ []) before last
          ∙ ap (λ s. s ++ byte ∷ []) (r.read (omega arith)) ∙ one_more text (suc i) byte inside is;
      some = λ p q. omega arith;
    }
