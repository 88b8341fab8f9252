-- Pairs, their keys, and what stands under these.
use Rattle.std.proofs.Common.{◌≡◌, List, [], ◌∷◌, map, length, refl, ap}
use Rattle.group_history.specs.Map.{Bytes}
use Rattle.group_history.specs.Rows.{paired, keys_of, values_of}

pub keys_of-paired : {A : Type 0} (ks : List Bytes) (xs : List A) → length xs ≡ length ks → keys_of (paired ks xs) ≡ ks
keys_of-paired [] xs h = refl
keys_of-paired (k ∷ ks) [] h = absurd cc
keys_of-paired (k ∷ ks) (x ∷ xs) h = ap (λ w. k ∷ w) (keys_of-paired ks xs (let e : length xs ≡ length ks = cc h in e))

pub values_of-paired : {A : Type 0} (ks : List Bytes) (xs : List A) → length xs ≡ length ks
    → values_of (paired ks xs) ≡ xs
values_of-paired [] [] h = refl
values_of-paired [] (x ∷ xs) h = absurd cc
values_of-paired (k ∷ ks) [] h = absurd cc
values_of-paired (k ∷ ks) (x ∷ xs) h = ap (λ w. x ∷ w)
    (values_of-paired ks xs (let e : length xs ≡ length ks = cc h in e))

-- pairs are their keys with what stands under them
pub paired-parts : {A : Type 0} (es : List (Bytes × A)) → paired (keys_of es) (values_of es) ≡ es
paired-parts [] = refl
paired-parts (e ∷ es) = ap (λ w. e ∷ w) (paired-parts es)

-- what stands under the keys, changed by a function
pub paired-map : {A B : Type 0} (f : A → B) (es : List (Bytes × A))
    → paired (keys_of es) (map f (values_of es)) ≡ map (λ e. (e.0, f e.1)) es
paired-map f [] = refl
paired-map f (e ∷ es) = ap (λ w. (e.0, f e.1) ∷ w) (paired-map f es)
