-- Keys that begin with a prefix stand together in the order of keys.
use Rattle.std.proofs.Common.{◌≡◌, Bool, true, false, cond, [], ◌∷◌, ◌&&◌, ◌==◌, nat_eq, ltb, refl, arith}
use Rattle.std.proofs.lemmas.Bool.Decides.{nat_tests}
use Rattle.std.specs.declared.cmp.Ordering.TheVariants.{Less, Equal, Greater}
use Rattle.std.specs.List.{starts_with}
use Rattle.std.specs.Ordering.{nat_cmp, ordering_then}
use Rattle.std.specs.Cmp.Lexicographic.{slice_cmp}
use Rattle.group_history.specs.Map.{Bytes}

-- what stands above the prefix and doesn't begin with it has no key behind it that does
pub past_prefix : (p k j : Bytes) → slice_cmp nat_cmp k p ≡ Greater → starts_with nat_eq k p ≡ false
    → slice_cmp nat_cmp k j ≡ Less → starts_with nat_eq j p ≡ false
past_prefix [] k j g n l = absurd cc
past_prefix (b ∷ p) [] j g n l = absurd cc
past_prefix (b ∷ p) (a ∷ k) [] g n l = absurd cc
past_prefix (b ∷ p) (a ∷ k) (c ∷ j) g n l = by (ltb a b) refl (a == b) refl (ltb a c) refl (a == c) refl
    (nat_eq b a) refl (nat_eq b c) refl g n l (past_prefix p k j)
  where
    by : (u : Bool) → ltb a b ≡ u → (v : Bool) → (a == b) ≡ v → (w : Bool) → ltb a c ≡ w → (x : Bool) → (a == c) ≡ x
        → (y : Bool) → nat_eq b a ≡ y → (z : Bool) → nat_eq b c ≡ z
        → ordering_then (cond u Less (cond v Equal Greater)) (slice_cmp nat_cmp k p) ≡ Greater
        → (y && starts_with nat_eq k p) ≡ false
        → ordering_then (cond w Less (cond x Equal Greater)) (slice_cmp nat_cmp k j) ≡ Less
        → (slice_cmp nat_cmp k p ≡ Greater → starts_with nat_eq k p ≡ false → slice_cmp nat_cmp k j ≡ Less
        → starts_with nat_eq j p ≡ false)
        → (z && starts_with nat_eq j p) ≡ false
    by u hu v hv w hw x hx y hy false hz g n l ih = refl
    by true hu v hv w hw x hx y hy true hz g n l ih = absurd cc
    by false hu true hv true hw x hx y hy true hz g n l ih = absurd (grind (arith, nat_tests))
    by false hu true hv false hw true hx true hy true hz g n l ih = ih g n l
    by false hu true hv false hw true hx false hy true hz g n l ih = absurd (grind (arith, nat_tests))
    by false hu true hv false hw false hx y hy true hz g n l ih = absurd cc
    by false hu false hv true hw x hx y hy true hz g n l ih = absurd (grind (arith, nat_tests))
    by false hu false hv false hw true hx y hy true hz g n l ih = absurd (grind (arith, nat_tests))
    by false hu false hv false hw false hx y hy true hz g n l ih = absurd cc

-- a key that begins with the prefix isn't below it
pub below_prefix : (p k : Bytes) → slice_cmp nat_cmp k p ≡ Less → starts_with nat_eq k p ≡ false
below_prefix [] [] l = absurd cc
below_prefix [] (a ∷ k) l = absurd cc
below_prefix (b ∷ p) [] l = refl
below_prefix (b ∷ p) (a ∷ k) l = by (ltb a b) refl (a == b) refl (nat_eq b a) refl l (below_prefix p k)
  where
    by : (u : Bool) → ltb a b ≡ u → (v : Bool) → (a == b) ≡ v → (y : Bool) → nat_eq b a ≡ y
        → ordering_then (cond u Less (cond v Equal Greater)) (slice_cmp nat_cmp k p) ≡ Less
        → (slice_cmp nat_cmp k p ≡ Less → starts_with nat_eq k p ≡ false)
        → (y && starts_with nat_eq k p) ≡ false
    by u hu v hv false hy l ih = refl
    by true hu v hv true hy l ih = absurd (grind (arith, nat_tests))
    by false hu true hv true hy l ih = ih l
    by false hu false hv true hy l ih = absurd cc
