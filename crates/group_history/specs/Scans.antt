-- What a scan answers.
-- Source: Replicache, ReadTransaction, "scan"; that keys are ordered by their bytes is this project's own rule.
use Rattle.std.specs.Prelude.{ℕ, Bool, true, List, filter, take, nat_eq, ◌&&◌, Option, Some, None}
use Rattle.std.specs.List.{starts_with}
use Rattle.std.specs.Ordering.{nat_cmp, is_ge, is_gt}
use Rattle.std.specs.Cmp.Lexicographic.{slice_cmp}
use Rattle.std.specs.FinMap as finite
use Rattle.group_history.specs.declared.scans.Start.{Start}
use Rattle.group_history.specs.declared.scans.Start.TheVariants.{Any, At, After}
use Rattle.group_history.specs.declared.scans.Scan.{Scan}
use Rattle.group_history.specs.Map.{Bytes}

-- the key is one from which the scan may begin
abbrev pub is_from : Start → Bytes → Bool
is_from Any key = true
is_from (At start) key = is_ge (slice_cmp nat_cmp key start)
is_from (After start) key = is_gt (slice_cmp nat_cmp key start)

-- the key begins with the prefix, and is not before the start
abbrev pub is_in : Scan → Bytes → Bool
is_in scan key = starts_with nat_eq key scan.prefix && is_from scan.start key

-- the first so many, where there is a limit
abbrev pub limited : {A : Type 0} → Option ℕ → List A → List A
limited None xs = xs
limited (Some n) xs = take n xs

-- the pairs of the map whose key is in the scan, in the keys' order, and of these the first so many
abbrev pub rows_of : {V : Type 0} → Scan → finite.FinMap (slice_cmp nat_cmp) V → List (Bytes × V)
rows_of scan m = limited scan.limit (filter (λ e. is_in scan e.0) (finite.entries m))
