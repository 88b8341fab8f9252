-- Values that stand above those of a table's rows, each named by its row's place.
use Rattle.std.specs.Prelude.{ℕ, zero, suc, List, [], ◌∷◌, nat_eq, if◌then◌else◌}
use Rattle.std.specs.FinMap as finite
use Rattle.group_history.specs.declared.confirmed.NewerId.{NewerId}
use Rattle.group_history.specs.Map.{Bytes}
use Rattle.group_history.specs.State.{Ids}

-- the rows, with this value in the one at a place; the same where there is no such row
abbrev pub with_value : {V : Type 0} → List (Bytes × V) → ℕ → V → List (Bytes × V)
with_value [] at v = []
with_value (r ∷ rs) zero v = (r.0, v) ∷ rs
with_value (r ∷ rs) (suc at) v = r ∷ with_value rs at v

-- the rows with the ids above them, the newest last
abbrev pub with_newer : List (Bytes × ℕ) → List NewerId → List (Bytes × ℕ)
with_newer rows [] = rows
with_newer rows (n ∷ ns) = with_newer (with_value rows n.place n.id) ns

-- the newest of these ids at a place, or else this one
abbrev pub newest_at : ℕ → List NewerId → ℕ → ℕ
newest_at at [] id = id
newest_at at (n ∷ ns) id = newest_at at ns (if nat_eq n.place at then n.id else id)

-- a table of ids with newer ones above it
abbrev pub ids_above : Ids → List NewerId → Ids
ids_above table ns = finite.from_sorted (with_newer (finite.entries table) ns)
