-- Beginnings of one list.
use Rattle.std.proofs.Common.{◌≡◌, ◌⊎◌, inl, inr, List, [], ◌∷◌, ◌++◌, refl, ap, sym, ◌∙◌}
use mathlib.Core.List.{IsPrefix}

-- of two beginnings of one list one begins the other
pub prefix_one : {A : Type 0} (xs ys zs : List A) → IsPrefix xs zs → IsPrefix ys zs → IsPrefix xs ys ⊎ IsPrefix ys xs
prefix_one [] ys zs p q = inl (ys, refl)
prefix_one (x ∷ xs) [] zs p q = inr (x ∷ xs, refl)
prefix_one (x ∷ xs) (y ∷ ys) [] p q = absurd cc
prefix_one (x ∷ xs) (y ∷ ys) (z ∷ zs) p q =
    let first : x ≡ y = let a : x ≡ z = cc (p.1) in let b : y ≡ z = cc (q.1) in a ∙ sym b in
    let p' : IsPrefix xs zs = (p.0, let e : xs ++ p.0 ≡ zs = cc (p.1) in e) in
    let q' : IsPrefix ys zs = (q.0, let e : ys ++ q.0 ≡ zs = cc (q.1) in e) in
    elim (prefix_one xs ys zs p' q') [
      | inl r ↦ inl (r.0, (λ i. first i ∷ (xs ++ r.0)) ∙ ap (λ w. y ∷ w) r.1)
      | inr r ↦ inr (r.0, (λ i. sym first i ∷ (ys ++ r.0)) ∙ ap (λ w. x ∷ w) r.1)
    ]
