-- Lists of numbers, and of pairs of them.
use Rattle.std.specs.Prelude.{◌≡◌, ℕ, ◌⊎◌, List, [], ◌∷◌, cond, ◌==◌}
use mathlib.Core.Option.{some}
use lib.ListN.{get_elem?}

-- the pair (i, w) is in the list
abbrev pub Noted : List (ℕ × ℕ) → ℕ → ℕ → Type 0
Noted xs i w = (k : ℕ) × (get_elem? xs k ≡ some (i, w))

-- the number is in the list
abbrev pub In : List ℕ → ℕ → Type 0
In [] x = ⊥
In (y ∷ ys) x = (x ≡ y) ⊎ In ys x

-- the list without a number
abbrev pub without : ℕ → List ℕ → List ℕ
without x [] = []
without x (y ∷ ys) = cond (x == y) (without x ys) (y ∷ without x ys)
