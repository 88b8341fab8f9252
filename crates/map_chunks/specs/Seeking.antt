-- Whether a key is there, and how deep a placed chunk is.
use Rattle.std.specs.Prelude.{ℕ, Bool, Option, option_map, is_some}
use Rattle.std.specs.Ordering.{nat_cmp}
use Rattle.std.specs.Cmp.Lexicographic.{slice_cmp}
use Rattle.std.specs.FinMap as finite
use Rattle.group_history.specs.Map.{Bytes}
use Rattle.group_history.specs.Rows.{Rows}
use Rattle.group_history.specs.Spelling.{Contents, Segment, segment_at}

-- how deep a placed chunk is
abbrev pub chunk_depth : Contents → ℕ → Option ℕ
chunk_depth contents stamp = option_map (λ (s : Segment). s.depth) (segment_at contents stamp)

-- whether the key is among these rows
abbrev pub is_key_in : Rows → Bytes → Bool
is_key_in rows key = is_some (finite.find (slice_cmp nat_cmp) key rows)
