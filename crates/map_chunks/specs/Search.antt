-- Where a key stands among keys in order.
use Rattle.std.specs.Prelude.{◌≡◌, ℕ, ◌-◌, ◌+◌, ◌<◌, ◌≤◌, Bool, true, false, List, length, slice_index_or}
use Rattle.std.specs.Ordering.{nat_cmp, is_gt, is_eq}
use Rattle.std.specs.Cmp.Lexicographic.{slice_cmp}
use Rattle.group_history.specs.Map.{Bytes}

-- whether the first key stands above the second
abbrev pub is_above : Bytes → Bytes → Bool
is_above x y = is_gt (slice_cmp nat_cmp x y)

-- so many of the keys aren't above this one: the last of these isn't, and the next one is
abbrev pub IsRank : Bytes → List Bytes → ℕ → Type 0
IsRank key keys n = (n ≤ length keys)
    × ((d : Bytes) → 0 < n → is_above (slice_index_or keys (n - 1) d) key ≡ false)
    × ((d : Bytes) → n < length keys → is_above (slice_index_or keys n d) key ≡ true)

-- the child at this place is the one to which the key belongs: the last one whose first key isn't above it, else the
-- first
abbrev pub IsPlace : Bytes → List Bytes → ℕ → Type 0
IsPlace key keys i = (i < length keys)
    × ((d : Bytes) → 0 < i → is_above (slice_index_or keys i d) key ≡ false)
    × ((d : Bytes) → i + 1 < length keys → is_above (slice_index_or keys (i + 1) d) key ≡ true)

-- the key stands at this place
abbrev pub IsFound : Bytes → List Bytes → ℕ → Type 0
IsFound key keys i = (i < length keys) × ((d : Bytes) → is_eq (slice_cmp nat_cmp (slice_index_or keys i d) key) ≡ true)

-- the key stands nowhere, and so many are below it
abbrev pub IsAbsent : Bytes → List Bytes → ℕ → Type 0
IsAbsent key keys n = IsRank key keys n ×
    ((d : Bytes) → 0 < n → is_eq (slice_cmp nat_cmp (slice_index_or keys (n - 1) d) key) ≡ false)
