-- A list whose entries are replaced one by one, from the first on.
use Rattle.std.proofs.Common.{◌≡◌, ℕ, zero, suc, ◌<◌, ◌≤◌, List, [], ◌∷◌, ◌++◌, map, take, drop, length, slice_set}
use Rattle.std.proofs.Common.{slice_index_or, refl, ap, arith, sym}

-- the first n are replaced
abbrev pub replaced : {A : Type 0} → (A → A) → ℕ → List A → List A
replaced f n xs = map f (take n xs) ++ drop n xs

-- the entry behind them is the old one
pub replaced-get : {A : Type 0} (f : A → A) (n : ℕ) (xs : List A) (d : A)
    → slice_index_or (replaced f n xs) n d ≡ slice_index_or xs n d
replaced-get f zero [] d = refl
replaced-get f (suc n) [] d = refl
replaced-get f zero (x ∷ xs) d = refl
replaced-get f (suc n) (x ∷ xs) d = replaced-get f n xs d

-- one more is replaced
pub replaced-set : {A : Type 0} (f : A → A) (n : ℕ) (xs : List A) (d : A) → n < length xs
    → slice_set (replaced f n xs) n (f (slice_index_or xs n d)) ≡ replaced f (suc n) xs
replaced-set f n [] d lt = absurd omega (arith, lt)
replaced-set f zero (x ∷ xs) d lt = refl
replaced-set f (suc n) (x ∷ xs) d lt = ap (λ w. f x ∷ w) (replaced-set f n xs d (omega (arith, lt)))

-- one more that stays as it is
pub replaced-kept : {A : Type 0} (f : A → A) (n : ℕ) (xs : List A) (d : A) → n < length xs
    → f (slice_index_or xs n d) ≡ slice_index_or xs n d → replaced f n xs ≡ replaced f (suc n) xs
replaced-kept f n [] d lt same = absurd omega (arith, lt)
replaced-kept f zero (x ∷ xs) d lt same = ap (λ w. w ∷ xs) (sym same)
replaced-kept f (suc n) (x ∷ xs) d lt same = ap (λ w. f x ∷ w) (replaced-kept f n xs d (omega (arith, lt)) same)

-- all are replaced
pub replaced-all : {A : Type 0} (f : A → A) (n : ℕ) (xs : List A) → length xs ≤ n → replaced f n xs ≡ map f xs
replaced-all f zero [] le = refl
replaced-all f (suc n) [] le = refl
replaced-all f zero (x ∷ xs) le = absurd omega (arith, le)
replaced-all f (suc n) (x ∷ xs) le = ap (λ w. f x ∷ w) (replaced-all f n xs (omega (arith, le)))
