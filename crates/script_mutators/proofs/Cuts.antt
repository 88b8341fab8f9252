-- Where a text is cut.
use Rattle.std.proofs.Common.{◌≡◌, ℕ, zero, suc, ◌+◌, ◌<◌, ◌≤◌, true, List, [], ◌∷◌, ◌++◌, length, take, drop, get_or}
use Rattle.std.proofs.Common.{sym, ap, ◌∙◌, arith, get_or-take, length-take}
use Rattle.json.specs.Print.{escape}
use Rattle.json.specs.Written.{PlainBetween}
use Rattle.json.specs.Run.{is_plain}
use Rattle.json.proofs.Printed.Plain.{escape_on_plain}

-- at a byte
pub cut_at : (text : List ℕ) (i byte : ℕ) → i < length text → get_or text i 0 ≡ byte
    → text ≡ take i text ++ byte ∷ drop (i + 1) text
cut_at [] i byte inside is = absurd (omega arith)
cut_at (x ∷ xs) zero byte inside is = ap (λ b. b ∷ xs) is
cut_at (x ∷ xs) (suc i) byte inside is =
    let next : suc i + 1 ≡ suc (i + 1) = omega arith in
    rw next (ap (λ s. x ∷ s) (cut_at xs i byte (omega arith) is))

-- behind two bytes
cut_two : (text : List ℕ) (a b : ℕ) → 1 < length text → get_or text 0 0 ≡ a → get_or text 1 0 ≡ b
    → text ≡ a ∷ b ∷ drop 2 text
cut_two [] a b inside first second = absurd (omega arith)
cut_two (x ∷ []) a b inside first second = absurd (omega arith)
cut_two (x ∷ y ∷ text) a b inside first second = λ i. first i ∷ second i ∷ text

-- a front without escapes is its own escaped form
pub plain_front : (text : List ℕ) (i : ℕ) → i ≤ length text → PlainBetween text 0 i → escape (take i text) ≡ take i text
plain_front text i inside plain =
    let long : length (take i text) ≡ i = omega (arith, length-take i text) in
    escape_on_plain true (take i text)
    (λ k p q. ap is_plain (get_or-take i text k 0 (omega (arith, long))) ∙ plain k p (omega (arith, long)))

-- a text that begins with a bracket and a quote, and has a front before the next quote
pub cut_key : (text after key rest : List ℕ) → 1 < length text → get_or text 0 0 ≡ 91 → get_or text 1 0 ≡ 34
    → after ≡ drop 2 text → after ≡ key ++ 34 ∷ rest → text ≡ 91 ∷ 34 ∷ (key ++ 34 ∷ rest)
cut_key text after key rest inside bracket quote is same =
    cut_two text 91 34 inside bracket quote ∙ ap (λ s. 91 ∷ 34 ∷ s) (sym is ∙ same)
