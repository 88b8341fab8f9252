-- What is kept under numbers: tickets, and watches.
use Rattle.std.specs.Prelude.{ℕ, ◌≡◌, ◌<◌, List, Option, Some, None, IsSome, slice_index_or, slice_set}
use Rattle.client_desk.specs.declared.calls.Keep.{Keep}
use Rattle.client_desk.specs.declared.calls.Keep.TheVariants.{At, AtNext}

-- what is kept under a number
abbrev pub kept_at : {X : Type 0} → List (Option X) → ℕ → Option X
kept_at xs n = slice_index_or xs n None

-- it is given up
abbrev pub given_up_at : {X : Type 0} → List (Option X) → ℕ → List (Option X)
given_up_at xs n = slice_set xs n None

-- this is kept under the number, and what is kept under others stays
pub record IsKeptAt {X : Type 0} (n : ℕ) (x : X) (old new : List (Option X)) : Type 0 where
  pub there : kept_at new n ≡ Some x
  pub others : (k : ℕ) → (k ≡ n → ⊥) → kept_at new k ≡ kept_at old k

-- the first number under which nothing is kept
pub record IsFirstFree {X : Type 0} (n : ℕ) (xs : List (Option X)) : Type 0 where
  pub free : kept_at xs n ≡ None
  pub least : (k : ℕ) → k < n → IsSome (kept_at xs k)

-- it is the number under which something is to be kept
abbrev pub IsNumberFor : {X : Type 0} → Keep → ℕ → List (Option X) → Type 0
IsNumberFor (At m) n xs = n ≡ m
IsNumberFor AtNext n xs = IsFirstFree n xs

-- what was kept under a number that is said is given up
abbrev pub room_for : {X : Type 0} → Keep → List (Option X) → List (Option X)
room_for (At n) xs = given_up_at xs n
room_for AtNext xs = xs
