-- Which rows of a scan are those of which chunk.
use Rattle.std.specs.Prelude.{◌≡◌, ◌⊎◌, ◌≤◌, ◌+◌, ◌-◌, ℕ, true, min, List, Option, Some, None, length, take, drop}
use Rattle.std.specs.List.{Contains}
use Rattle.group_history.specs.declared.scans.Scan.{Scan}
use Rattle.group_history.specs.Rows.{Rows}
use Rattle.group_history.specs.Spelling.{Contents}
use Rattle.map_chunks.specs.Scanning.{scanned}
use Rattle.map_chunks.specs.Shown.{chunk_rows}
use Rattle.transactions.specs.declared.spans.Span.{Span}

-- the rows of a span
abbrev pub span_rows : Rows → Span → Rows
span_rows rows s = take s.count (drop s.from rows)

-- The chunk of the stamp is known, and the first rows that the scan has of it are the span's: all, where it is whole.
pub record IsSpan (scan : Scan) (contents : Contents) (rows : Rows) (stamp : ℕ) (s : Span) : Type 0 where
  pub chunk : Rows
  pub known : chunk_rows contents stamp ≡ Some chunk
  pub inside : s.from + s.count ≤ length rows
  pub has : take s.count (scanned scan chunk) ≡ span_rows rows s
  pub all : s.whole ≡ true → scanned scan chunk ≡ span_rows rows s

-- Of these rows of the scan each span says which are the chunk's of its stamp, if it has one.
abbrev pub AreSpans : Scan → Contents → Rows → List Span → Type 0
AreSpans scan contents rows spans = (s : Span) → Contains spans s → (stamp : ℕ) → s.stamp ≡ Some stamp
    → IsSpan scan contents rows stamp s

-- it tells all rows of its chunk for which there is so much room
abbrev pub Tells : Span → Option ℕ → Type 0
Tells s None = s.whole ≡ true
Tells s (Some room) = (s.whole ≡ true) ⊎ (room ≤ s.count)

-- how many of so many rows there is room for
abbrev pub fitting : Option ℕ → ℕ → ℕ
fitting None n = n
fitting (Some room) n = min room n

-- So many rows from a place on were moved, and end at `end` now. Of the rows of `one`, `s` has the first ones, which
-- are among the moved rows; it is whole only where `one` was and has no others.
pub record IsMoved (from count end : ℕ) (one s : Span) : Type 0 where
  pub stamp : s.stamp ≡ one.stamp
  pub begins : from ≤ one.from
  pub fits : one.from + s.count ≤ from + count
  pub at : s.from ≡ end - (from + count - one.from)
  pub few : s.count ≤ one.count
  pub all : s.whole ≡ true → (one.whole ≡ true) × (s.count ≡ one.count)

-- it is one of these spans, with those of its rows that were moved
pub record IsOneMoved (from count end : ℕ) (kept : List Span) (s : Span) : Type 0 where
  pub one : Span
  pub met : Contains kept one
  pub moved : IsMoved from count end one s
