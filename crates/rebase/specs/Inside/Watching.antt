-- What a watch keeps of the rows that it answered last.
use Rattle.std.specs.Prelude.{◌≡◌, ⊤, ℕ, List, Option, Some, None}
use Rattle.std.specs.FinMap as finite
use mathlib.Core.List.{IsPrefix}
use Rattle.group_history.specs.declared.scans.Scan.{Scan}
use Rattle.group_history.specs.Map.{Entries}
use Rattle.group_history.specs.Meaning.{Meanings}
use Rattle.group_history.specs.Queries.{view_rows}
use Rattle.group_history.specs.Record.{after}
use Rattle.group_history.specs.Refs.{stamp_of}
use Rattle.group_history.specs.Rows.{Rows}
use Rattle.group_history.specs.Scans.{rows_of}
use Rattle.group_history.specs.Spelling.{Contents, map_at}
use Rattle.group_history.specs.State.{view_of}
use Rattle.head_word.specs.declared.entry.Entry.{Entry}
use Rattle.head_word.specs.Books.{drawn, record_of}
use Rattle.map_chunks.specs.Covers.{Covers}
use Rattle.map_chunks.specs.Scanning.{scanned}
use Rattle.transactions.specs.Rescans.{IsRescanned}
use Rattle.transactions.specs.Spans.{AreSpans}
use Rattle.transactions.specs.declared.again.Rescanned.{Rescanned}
use Rattle.transactions.specs.declared.spans.Span.{Span}
use Rattle.rebase.specs.declared.watching.LastAnswer.{LastAnswer}

abbrev pub rows_last_told : Option LastAnswer → Option Rows
rows_last_told None = None
rows_last_told (Some told) = Some told.rows

-- the scan's rows of the map lie in the chunks of these stamps, its limit aside
abbrev pub CoversMap : Contents → Scan → List ℕ → Entries → Type 0
CoversMap contents scan cover m = Covers scan contents cover (scanned scan (finite.entries m))

-- and so do those of the view there
abbrev pub CoversView : Meanings → List Entry → Scan → List ℕ → Type 0
CoversView means log scan cover = CoversMap (drawn log) scan cover (view_of means (after (record_of log)))

-- what a scan there finds that is made again, where these spans are of the rows of before: in all that is known
abbrev pub IsFoundAgain : Meanings → List Entry → Scan → Rows → List Span → Rescanned → Type 0
IsFoundAgain means log scan told known found = (all : Contents) → IsPrefix (drawn log) all
    → AreSpans scan all told known → IsRescanned scan all told (view_rows means (after (record_of log)) scan) found

-- The rows are those of the map that the root spells, lie in the chunks of the cover, and have these spans.
abbrev pub AreRead : Contents → Scan → Option LastAnswer → Type 0
AreRead contents scan None = ⊤
AreRead contents scan (Some told) = (m : Entries) × (map_at contents (stamp_of told.root) ≡ Some m)
    × (told.rows ≡ rows_of scan m) × CoversMap contents scan told.cover m
    × AreSpans scan contents told.rows told.spans
