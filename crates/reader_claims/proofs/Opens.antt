-- Whether a slot may be given is told by what was read, so that a type can keep it as a fact.
use Rattle.std.proofs.Common.{◌≡◌, ℕ, zero, suc, ◌<◌, ◌≤◌, ◌⊎◌, inl, inr, List, [], ◌∷◌, sym, ap, subst, arith}
use Rattle.std.proofs.Math.Logic.{∥∥₁_elim}
use mathlib.Core.Logic.{dite}
use mathlib.Core.Option.{some}
use native.Mathlib.Decide.{ℕ_discrete, dec_le, dec_lt}
use mathlib.Core.Option.{some-ne-none}
use Rattle.reader_claims.specs.Lists.{Noted}
use Rattle.reader_claims.specs.Views.{IsOpen}
use Rattle.reader_claims.specs.declared.view.View.{View}
use Rattle.reader_claims.specs.declared.view.Sizes.{Sizes}
use Rattle.reader_claims.specs.Inside.Plays.{Sat}

-- the pin of the reader j was read as absent or above r
abbrev ReadsAbove : List (ℕ × ℕ) → ℕ → ℕ → Type 0
ReadsAbove xs j r = (w : ℕ) × Noted xs j w × ((w ≡ 0) ⊎ (r < w))

abbrev IsAbove : ℕ → ℕ → Type 0
IsAbove x r = (x ≡ 0) ⊎ (r < x)

is_above : (x r : ℕ) → IsAbove x r ⊎ (IsAbove x r → ⊥)
is_above x r = dite (ℕ_discrete x 0) (λ z. inl (inl z)) (λ nz. dite (dec_lt r x) (λ lt. inl (inr lt))
    (λ ge. inr (λ h. elim h [ inl z ↦ nz z | inr lt ↦ ge lt ])))

nothing_read : (j r : ℕ) → ReadsAbove [] j r → ⊥
nothing_read j r h = some-ne-none (j, h.0) (sym h.1.1)

not_first : (i x j r : ℕ) (xs : List (ℕ × ℕ)) → (i ≡ j → IsAbove x r → ⊥) → (ReadsAbove xs j r → ⊥)
    → ReadsAbove ((i, x) ∷ xs) j r → ⊥
not_first i x j r xs head tail (w, (zero, is), h) =
    let p : (i, x) ≡ (j, w) = cc is in
    head (ap (λ (y : ℕ × ℕ). y.0) p) (subst (λ z. IsAbove z r) (sym (ap (λ (y : ℕ × ℕ). y.1) p)) h)
not_first i x j r xs head tail (w, (suc k, is), h) = tail (w, (k, is), h)

later : (i x j r : ℕ) (xs : List (ℕ × ℕ)) → (i ≡ j → IsAbove x r → ⊥)
    → ReadsAbove xs j r ⊎ (ReadsAbove xs j r → ⊥) → ReadsAbove ((i, x) ∷ xs) j r ⊎ (ReadsAbove ((i, x) ∷ xs) j r → ⊥)
later i x j r xs head (inl h) = inl (h.0, (suc h.1.0, h.1.1), h.2)
later i x j r xs head (inr never) = inr (not_first i x j r xs head never)

reads_above : (xs : List (ℕ × ℕ)) (j r : ℕ) → ReadsAbove xs j r ⊎ (ReadsAbove xs j r → ⊥)
reads_above [] j r = inr (nothing_read j r)
reads_above ((i, x) ∷ xs) j r = dite (ℕ_discrete i j)
    (λ same. elim (is_above x r) [
      | inl high ↦ inl (x, (zero, ap (λ n. some (n, x)) same), high)
      | inr low ↦ later i x j r xs (λ e high. low high) (reads_above xs j r)
    ])
    (λ other. later i x j r xs (λ e high. other e) (reads_above xs j r))

-- each pin up to n was read so
abbrev AllAbove : ℕ → List (ℕ × ℕ) → ℕ → Type 0
AllAbove n xs r = (j : ℕ) → 0 < j → j ≤ n → ReadsAbove xs j r

all_above : (n : ℕ) (xs : List (ℕ × ℕ)) (r : ℕ) → AllAbove n xs r ⊎ (AllAbove n xs r → ⊥)
all_above zero xs r = inl (λ j some few. absurd (omega arith))
all_above (suc n) xs r = elim (all_above n xs r) [
  | inl all ↦ elim (reads_above xs (suc n) r) [
    | inl h ↦ inl (λ j some few. dite (ℕ_discrete j (suc n)) (λ e. subst (λ i. ReadsAbove xs i r) (sym e) h)
        (λ ne. all j some (omega arith)))
    | inr never ↦ inr (λ f. never (f (suc n) (omega arith) (omega arith)))
  ]
  | inr never ↦ inr (λ f. never (λ j some few. f j some (omega arith)))
]

is_open : (v : View) (r : ℕ) → IsOpen v r ⊎ (IsOpen v r → ⊥)
is_open v r = dite (dec_le r v.reached)
    (λ le. elim (all_above v.sizes.readers v.read r) [ inl all ↦ inl (le, all) | inr never ↦ inr (λ o. never o.1) ])
    (λ gt. inr (λ o. gt o.0))

-- what is kept as a fact can be used
pub opened : (v : View) (r : ℕ) → ∥ IsOpen v r ∥₁ → IsOpen v r
opened v r h = elim (is_open v r) [ inl o ↦ o | inr never ↦ absurd (∥∥₁_elim h (λ (x y : ⊥). absurd x) never) ]

-- What was open stays so where the epoch was not read anew, and no pin was forgotten.
pub still_open : (m n : Sat) (w : View) (bound : ℕ) → n ≡ (w, m.1) → w.reached ≡ m.0.reached → w.sizes ≡ m.0.sizes
    → ((j x : ℕ) → Noted m.0.read j x → Noted w.read j x) → ((r : ℕ) → 0 < r → r ≤ bound → ∥ IsOpen m.0 r ∥₁) → (r : ℕ)
    → 0 < r → r ≤ bound → ∥ IsOpen n.0 r ∥₁
still_open m n w bound is reached sizes noted was r low high =
    let h = opened m.0 r (was r low high) in
    subst (λ (s : Sat). ∥ IsOpen s.0 r ∥₁) (sym is) ∣ (
      subst (λ e. r ≤ e) (sym reached) h.0,
      λ j some below. let t = h.1 j some (subst (λ (k : Sizes). j ≤ k.readers) sizes below) in
          (t.0, noted j t.0 t.1, t.2),
    ) ∣₁
