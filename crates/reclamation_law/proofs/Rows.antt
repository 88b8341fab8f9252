-- Lists of works, of commits and of slots, and what a draw and a retire leave of a try.
use Rattle.std.proofs.Common.{◌≡◌, ◌≢◌, ◌⊎◌, ℕ, zero, suc, ◌<◌, ◌≤◌, replicate, List, [], ◌∷◌, set, refl, sym, subst}
use Rattle.std.proofs.Common.{inl, inr, ⊎_elim}
use mathlib.Core.Logic.{dite}
use mathlib.Core.Option.{some, some-injective, some-ne-none}
use native.Mathlib.Decide.{ℕ_discrete}
use lib.ListN.{get_elem?}
use Rattle.atomic_table.proofs.Lists.{at_set}
use Rattle.reader_claims.specs.Lists.{In}
use Rattle.reader_claims.proofs.Slotted.{left_of}
use Rattle.reclamation_law.specs.Worlds.{minus, Try, no_try, under_way, ended, IsTrying, slots_of, IsLateTry, IsDrawnIn}
use Rattle.reclamation_law.specs.Joined.{try_retired, with_drawn}

-- what holds of the new element, and of each other one, holds of each
pub each : {A : Type 0} (P : ℕ → A → Type 0) (l : List A) (id : ℕ) (a : A) → P id a
    → ((j : ℕ) (b : A) → j ≢ id → get_elem? l j ≡ some b → P j b) → (j : ℕ) (b : A)
    → get_elem? (set l id a) j ≡ some b → P j b
each P l id a new old j b e = ⊎_elim (λ (x : (j ≡ id) × (a ≡ b)). subst (λ (y : ℕ × _). P y.0 y.1)
    (λ i. (sym x.0 i, x.1 i)) new)
    (λ (x : (j ≢ id) × (get_elem? l j ≡ some b)). old j b x.0 x.1) (at_set l id j a b e)

-- each element of a list of copies is the copy
pub copied : {A : Type 0} (n : ℕ) (a : A) (j : ℕ) (b : A) → get_elem? (replicate n a) j ≡ some b → b ≡ a
copied zero a j b e = absurd (some-ne-none b (sym e))
copied (suc n) a zero b e = sym (some-injective a b e)
copied (suc n) a (suc j) b e = copied n a j b e

pub in_or_not : (xs : List ℕ) (z : ℕ) → In xs z ⊎ (In xs z → ⊥)
in_or_not [] z = inr (λ h. h)
in_or_not (x ∷ xs) z = dite (ℕ_discrete z x) (λ e. inl (inl e))
    (λ ne. ⊎_elim (λ (h : In xs z). inl (inr h)) (λ (n : In xs z → ⊥). inr (λ h. ⊎_elim ne n h)) (in_or_not xs z))

pub in_minus : (xs ys : List ℕ) (z : ℕ) → In (minus xs ys) z → In xs z × (In ys z → ⊥)
in_minus xs [] z h = (h, λ n. n)
in_minus xs (y ∷ ys) z h = let a = left_of y z (minus xs ys) h in let b = in_minus xs ys z a.1 in
    (b.0, λ n. ⊎_elim a.0 b.1 n)

pub gone : (t : Try) (i : ℕ) → IsLateTry t → In (slots_of (try_retired t i)) i → ⊥
gone no_try i late h = late
gone (under_way settled drawn) i late h = late
gone (ended left loaded) i late h = (left_of i i left h).0 refl

pub left : (t : Try) (i z : ℕ) → In (slots_of (try_retired t i)) z → In (slots_of t) z
left no_try i z h = h
left (under_way settled drawn) i z h = h
left (ended l loaded) i z h = (left_of i z l h).1

pub slots_drawn : (t : Try) (first end z : ℕ) → In (slots_of (with_drawn t first end)) z → In (slots_of t) z
slots_drawn no_try first end z h = h
slots_drawn (under_way settled drawn) first end z h = h
slots_drawn (ended l loaded) first end z h = h

pub late_drawn : (t : Try) (first end : ℕ) → IsLateTry (with_drawn t first end) → IsLateTry t
late_drawn no_try first end h = h
late_drawn (under_way settled drawn) first end h = h
late_drawn (ended l loaded) first end h = h

-- a stamp of the try was drawn now, or before
pub drawn_now : (t : Try) (first end q : ℕ) → IsDrawnIn (with_drawn t first end) q
    → ((first ≤ q) × (q < end)) ⊎ IsDrawnIn t q
drawn_now no_try first end q h = inr h
drawn_now (under_way settled drawn) first end q h = h
drawn_now (ended l loaded) first end q h = inr h

pub trying_drawn : (t : Try) (first end : ℕ) → IsTrying (with_drawn t first end) → IsTrying t
trying_drawn no_try first end h = h
trying_drawn (under_way settled drawn) first end h = h
trying_drawn (ended l loaded) first end h = h
