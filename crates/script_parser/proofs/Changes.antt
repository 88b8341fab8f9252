-- A value of a list that is changed at its place.
use Rattle.std.proofs.Common.{◌≡◌, ◌≤◌, ℕ, zero, suc, List, [], ◌∷◌, length, map, set, get_or, All, refl, ap, arith}
use Rattle.std.proofs.lemmas.List.Elements.{All-nil, All-cons, All-head, All-tail}
use Rattle.script_parser.specs.Names.{changed_at}

-- the view of a list in which a value was changed, by the views of the value before and after
pub map_set-changed_at : {X Y : Type 0} (f : X → Y) (change : Y → Y) (xs : List X) (i : ℕ) (x w : X) → x ≡ get_or xs i x
    → f w ≡ change (f x) → map f (set xs i w) ≡ changed_at i change (map f xs)
map_set-changed_at f change [] i x w at is = refl
map_set-changed_at f change (y ∷ ys) zero x w at is = ap (λ z. z ∷ map f ys) (rw (← at) is)
map_set-changed_at f change (y ∷ ys) (suc i) x w at is = ap (λ zs. f y ∷ zs)
    (map_set-changed_at f change ys i x w at is)

pub length-changed_at : {X : Type 0} (change : X → X) (i : ℕ) (xs : List X)
    → length (changed_at i change xs) ≡ length xs
length-changed_at change i [] = refl
length-changed_at change zero (x ∷ xs) = refl
length-changed_at change (suc i) (x ∷ xs) = ap suc (length-changed_at change i xs)

-- what holds of each value holds after a change that keeps it
pub All-changed_at : {X : Type 0} (P : X → Type 0) (change : X → X) (i : ℕ) (xs : List X)
    → ((x : X) → P x → P (change x)) → All P xs → All P (changed_at i change xs)
All-changed_at P change i [] keeps all = All-nil P
All-changed_at P change zero (x ∷ xs) keeps all = All-cons P (change x) xs (keeps x (All-head P x xs all))
    (All-tail P x xs all)
All-changed_at P change (suc i) (x ∷ xs) keeps all = All-cons P x (changed_at i change xs) (All-head P x xs all)
    (All-changed_at P change i xs keeps (All-tail P x xs all))

-- a list in which a value was changed
pub set-changed_at : {X : Type 0} (change : X → X) (xs : List X) (i : ℕ) (x w : X) → x ≡ get_or xs i x → w ≡ change x
    → set xs i w ≡ changed_at i change xs
set-changed_at change [] i x w at is = refl
set-changed_at change (y ∷ ys) zero x w at is = ap (λ z. z ∷ ys) (rw (← at) is)
set-changed_at change (y ∷ ys) (suc i) x w at is = ap (λ zs. y ∷ zs) (set-changed_at change ys i x w at is)

-- past the end nothing is changed, and nothing stands there
pub changed_at-past : {X : Type 0} (change : X → X) (xs : List X) (i : ℕ) → length xs ≤ i → changed_at i change xs ≡ xs
changed_at-past change [] i past = refl
changed_at-past change (x ∷ xs) zero past = absurd (omega (arith, past))
changed_at-past change (x ∷ xs) (suc i) past = ap (λ ys. x ∷ ys) (changed_at-past change xs i (omega (arith, past)))

pub get_or-past : {X : Type 0} (xs : List X) (i : ℕ) (d : X) → length xs ≤ i → get_or xs i d ≡ d
get_or-past [] i d past = refl
get_or-past (x ∷ xs) zero d past = absurd (omega (arith, past))
get_or-past (x ∷ xs) (suc i) d past = get_or-past xs i d (omega (arith, past))
