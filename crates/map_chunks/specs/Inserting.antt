-- An entry inserted among entries, of which there are at most 16.
use Rattle.std.specs.Prelude.{◌≡◌, ◌≤◌, List, length, take, drop, Option, Some, None}
use Rattle.group_history.specs.Map.{Bytes}
use Rattle.group_history.specs.Rows.{paired}

-- these keys and entries are the pairs
abbrev pub ArePairs : {A : Type 0} → List (Bytes × A) → List Bytes → List A → Type 0
ArePairs es keys entries = (paired keys entries ≡ es) × (length entries ≡ length keys)

-- Up to 16 entries stay together, of 17 the first 8 stay, and the last 9 are handed out.
abbrev pub Parted : {A : Type 0} → List (Bytes × A) → List Bytes → List A → Option (List Bytes × List A) → Type 0
Parted es keys entries None = ArePairs es keys entries × (length es ≤ 16)
Parted es keys entries (Some upper) = ArePairs (take 8 es) keys entries × ArePairs (drop 8 es) upper.0 upper.1
    × (length es ≡ 17)
