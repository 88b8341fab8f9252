-- Where a search among rows ends that have their keys in order.
use Rattle.std.specs.Prelude.{◌≡◌, ℕ, ◌<◌, ◌≤◌, List, length}
use Rattle.std.specs.Result.{MatchResult}
use Rattle.std.specs.List.{HoldsAt, AllWithin}
use Rattle.std.specs.Ordering.{nat_cmp}
use Rattle.std.specs.Cmp.Lexicographic.{slice_cmp}
use Rattle.std.specs.declared.cmp.Ordering.TheVariants.{Less, Greater}
use Rattle.std.specs.declared.result.Result.{Result}
use Rattle.group_history.specs.Map.{Bytes}

-- a row of the key is at i
abbrev pub IsRowAt : {V : Type 0} → List (Bytes × V) → Bytes → ℕ → Type 0
IsRowAt rows key i = (i < length rows) × HoldsAt (λ row. row.0 ≡ key) rows i

-- the rows below i have smaller keys, and those from i on greater ones
abbrev pub IsRowGap : {V : Type 0} → List (Bytes × V) → Bytes → ℕ → Type 0
IsRowGap rows key i =
    (i ≤ length rows) × AllWithin (λ row. slice_cmp nat_cmp row.0 key ≡ Less) rows 0 i
    × AllWithin (λ row. slice_cmp nat_cmp row.0 key ≡ Greater) rows i (length rows)

-- where a search for the key ends: at its row, or where a row of it would go
abbrev pub IsRowPlace : {V : Type 0} → List (Bytes × V) → Bytes → Result ℕ ℕ → Type 0
IsRowPlace rows key place = MatchResult place (IsRowAt rows key) (IsRowGap rows key)
