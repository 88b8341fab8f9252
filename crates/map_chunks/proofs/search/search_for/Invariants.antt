use Rattle.std.proofs.Common.{◌-◌, ◌≡◌, ◌<◌, ◌≤◌, length, true, slice_index_or, nat_cmp, Less}
use Rattle.std.specs.Cmp.Lexicographic.{slice_cmp}
use Rattle.group_history.specs.Map.{Bytes}
use Rattle.map_chunks.specs.Search.{is_above}
use Rattle.map_chunks.proofs.search.search_for.Given as goal

abbrev pub invariant-loop-low : goal.invariant-loop-low
invariant-loop-low l = (l.low ≤ l.high) × (l.high ≤ length l.keys)
    × ((d : Bytes) → 0 < l.low → slice_cmp nat_cmp (slice_index_or l.keys (l.low - 1) d) l.key ≡ Less)
    × ((d : Bytes) → l.high < length l.keys → is_above (slice_index_or l.keys l.high d) l.key ≡ true)

abbrev pub decreases-loop-low : goal.decreases-loop-low
decreases-loop-low l = l.high - l.low
