-- Elements of lists, and lists that begin others.
use Rattle.std.proofs.Common.{◌≡◌, ℕ, zero, suc, ◌<◌, ◌≤◌, ◌⊎◌, inl, inr, List, [], ◌∷◌, ◌++◌, length, map, Some}
use Rattle.std.proofs.Common.{slice_get, refl, ap, sym, subst, ◌∙◌, arith, append_assoc, length-append}
use Rattle.std.specs.List.{Contains}
use Rattle.std.proofs.lemmas.List.Elements.{Contains-append_cases, Contains-append_left, Contains-append_right}
use mathlib.Core.List.{IsPrefix}

pub no_element : {A : Type 0} (x : A) → Contains [] x → ⊥
no_element x h = let l : h.0 < 0 = h.1 in omega arith

pub one_here : {A : Type 0} (x : A) → Contains (x ∷ []) x
one_here x = (0, omega arith, refl)

pub only_one : {A : Type 0} (y x : A) → Contains (y ∷ []) x → y ≡ x
only_one y x (zero, low, e) = e
only_one y x (suc k, low, e) = absurd (omega arith)

pub first_here : {A : Type 0} (x : A) (xs : List A) → Contains (x ∷ xs) x
first_here x xs = Contains-append_left (x ∷ []) xs x (one_here x)

pub later_here : {A : Type 0} (y : A) (xs : List A) (x : A) → Contains xs x → Contains (y ∷ xs) x
later_here y xs x h = Contains-append_right (y ∷ []) xs x h

pub cons_cases : {A : Type 0} (y : A) (ys : List A) (x : A) → Contains (y ∷ ys) x → (y ≡ x) ⊎ Contains ys x
cons_cases y ys x h = elim (Contains-append_cases (y ∷ []) ys x h) [ inl p ↦ inl (only_one y x p) | inr q ↦ inr q ]

-- an element behind a map comes from one before it, and the other way
pub map_from : {A B : Type 0} (f : A → B) (xs : List A) (y : B) → Contains (map f xs) y
    → (x : A) × Contains xs x × (f x ≡ y)
map_from f [] y h = absurd (no_element y h)
map_from f (x ∷ xs) y h = elim (cons_cases (f x) (map f xs) y h)
    [ inl e ↦ (x, first_here x xs, e) | inr q ↦ (let r = map_from f xs y q in (r.0, later_here x xs r.0 r.1, r.2)) ]

pub map_to : {A B : Type 0} (f : A → B) (xs : List A) (x : A) → Contains xs x → Contains (map f xs) (f x)
map_to f [] x h = absurd (no_element x h)
map_to f (y ∷ xs) x h = elim (cons_cases y xs x h) [
  | inl e ↦ subst (λ w. Contains (f y ∷ map f xs) (f w)) e (first_here (f y) (map f xs))
  | inr q ↦ later_here (f y)
      (map f xs) (f x) (map_to f xs x q)
]

-- BEGINNINGS

-- each list begins with itself
pub prefix_self : {A : Type 0} (xs : List A) → IsPrefix xs xs
prefix_self [] = ([], refl)
prefix_self (x ∷ xs) = (let r = prefix_self xs in r.0, ap (λ ys. x ∷ ys) (prefix_self xs).1)

pub prefix_trans : {A : Type 0} (xs ys zs : List A) → IsPrefix xs ys → IsPrefix ys zs → IsPrefix xs zs
prefix_trans xs ys zs p q = (p.0 ++ q.0, sym (append_assoc xs p.0 q.0) ∙ (ap (λ w. w ++ q.0) p.1 ∙ q.1))

pub prefix_length : {A : Type 0} (xs ys : List A) → IsPrefix xs ys → length xs ≤ length ys
prefix_length xs ys p = omega (arith, sym (ap length p.1) ∙ length-append xs p.0)

-- what stands in a list stands in a longer one, at the same place
pub get_more : {A : Type 0} (xs ys : List A) (k : ℕ) (x : A) → slice_get xs k ≡ Some x → slice_get (xs ++ ys) k ≡ Some x
get_more [] ys k x h = absurd cc
get_more (y ∷ xs) ys zero x h = h
get_more (y ∷ xs) ys (suc k) x h = get_more xs ys k x h
