-- Texts that are one.
use Rattle.std.proofs.Common.{◌≡◌, Bool, true, false, [], ◌∷◌, ◌&&◌, refl, arith, nat_eq}
use Rattle.std.proofs.lemmas.Bool.Decides.{nat_tests}
use Rattle.std.specs.Cmp.Lexicographic.{pointwise}
use Rattle.group_history.specs.Map.{Bytes, same_text}

pub and-first : (a b : Bool) → (a && b) ≡ true → a ≡ true
and-first true b h = refl
and-first false b h = h

pub and-second : (a b : Bool) → (a && b) ≡ true → b ≡ true
and-second true b h = h
and-second false b h = absurd cc

pub same_text-is : (x y : Bytes) → same_text x y ≡ true → x ≡ y
same_text-is [] [] h = refl
same_text-is [] (b ∷ y) h = absurd cc
same_text-is (a ∷ x) [] h = absurd cc
same_text-is (a ∷ x) (b ∷ y) h =
    let e : a ≡ b = let g = and-first (nat_eq a b) (pointwise nat_eq x y) h in grind (arith, nat_tests) in
    let r = same_text-is x y (and-second (nat_eq a b) (pointwise nat_eq x y) h) in
    cc

pub same_text-itself : (x : Bytes) → same_text x x ≡ true
same_text-itself [] = refl
same_text-itself (a ∷ x) = by (nat_eq a a) (grind (arith, nat_tests)) (same_text-itself x)
  where
    by : (u : Bool) → u ≡ true → pointwise nat_eq x x ≡ true → (u && pointwise nat_eq x x) ≡ true
    by true e h = h
    by false e h = e
