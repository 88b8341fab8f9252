-- What a reading of the pins knows.
use Rattle.std.proofs.Common.{◌≡◌, ℕ, zero, suc, ◌+◌, ◌-◌, min, ◌<◌, ◌≤◌, ◌⊎◌, refl, sym, ap, subst, inl, inr, ⊎_elim}
use Rattle.std.proofs.Common.{arith}
use mathlib.Core.Logic.{dite}
use native.Mathlib.Decide.{ℕ_discrete, dec_le}
use mathlib.Core.Option.{some}
use Rattle.reader_claims.specs.Lists.{Noted}
use Rattle.reader_claims.specs.Views.{with_read, ArePinsRead, SomeBelow, IsOpen, IsClosed}
use Rattle.reader_claims.specs.declared.view.View.{View}

-- as far as the pins of the readers up to n
abbrev pub OpenTo : ℕ → View → ℕ → Type 0
OpenTo n v r = (r ≤ v.reached) × ((j : ℕ) → 0 < j → j ≤ n → (w : ℕ) × Noted v.read j w × ((w ≡ 0) ⊎ (r < w)))

more_noted : (v u : View) (n w i x : ℕ) → u ≡ with_read v n w → Noted v.read i x → Noted u.read i x
more_noted v u n w i x is h = subst (λ y. Noted y.read i x) (sym is) (suc h.0, h.1)

-- after the pin of the seat n + 1 was read as w
pub more_open : (v u : View) (n w least least' : ℕ) → u ≡ with_read v (n + 1) w
    → (w ≡ 0 → least' ≡ least) × (0 < w → least' ≡ min least (w - 1))
    → ((r : ℕ) → r ≤ least → OpenTo n v r) → (r : ℕ) → r ≤ least' → OpenTo (n + 1) u r
more_open v u n w least least' is low h r below = let now : (w ≡ 0)
    ⊎ (r < w) = dite (ℕ_discrete w 0) inl (λ ne. let l = low.1 (omega arith) in inr (omega arith)) in
    let le : r ≤ least = dite (ℕ_discrete w 0) (λ e. let l = low.0 e in omega arith)
    (λ ne. let l = low.1 (omega arith) in omega arith) in let old = h r le in
    subst (λ y. OpenTo (n + 1) y r) (sym is) (
      old.0,
      λ i some_pin high. dite (ℕ_discrete i (n + 1)) (λ e. (w, (zero, ap (λ j. some (j, w)) (sym e)), now))
          (λ ne. let t = old.1 i some_pin (omega arith) in (t.0, (suc t.1.0, t.1.1), t.2)),
    )

pub more_closed : (v u : View) (n w least least' : ℕ) → u ≡ with_read v (n + 1) w → n < v.sizes.readers
    → (w ≡ 0 → least' ≡ least) × (0 < w → least' ≡ min least (w - 1))
    → ((r : ℕ) → least < r → IsClosed v r) → (r : ℕ) → least' < r → IsClosed u r
more_closed v u n w least least' is near low h r above = dite (dec_le r least)
    (λ le. let some_pin : 0 < w = dite (ℕ_discrete w 0) (λ e. let l = low.0 e in absurd (omega arith))
    (λ ne. omega arith) in let l = low.1 some_pin in
    inr (subst (λ y. SomeBelow y r) (sym is)
    (n + 1, omega arith, omega arith, (w, (zero, refl), some_pin, omega arith))))
    (λ gt. ⊎_elim (λ (y : v.reached < r). inl (subst (λ (z : View). z.reached < r) (sym is) y))
    (λ (y : SomeBelow v r). inr (
      y.0,
      y.1,
      subst (λ (z : View). y.0 ≤ z.sizes.readers) (sym is) y.2,
      (y.3.0, more_noted v u (n + 1) w y.0 y.3.0 is y.3.1, y.3.2, y.3.3),
    )) (h r (omega arith)))

-- every number is open from 0 on, so every pin was read
pub all_read : (v : View) → IsOpen v 0 → ArePinsRead v
all_read v h j some_pin high = let t = h.1 j some_pin high in (t.0, t.1)
