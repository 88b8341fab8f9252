-- What a scan that is made again finds.
use Rattle.std.specs.Prelude.{◌≡◌, ℕ, List, Option, IfSome, IfNone}
use mathlib.Core.List.{IsPrefix}
use Rattle.group_history.specs.declared.scans.Scan.{Scan}
use Rattle.group_history.specs.Rows.{Rows}
use Rattle.group_history.specs.Spelling.{Contents}
use Rattle.map_chunks.specs.Scanning.{Took, taken}
use Rattle.map_chunks.specs.Shown.{IsTree, rows_or}
use Rattle.transactions.specs.Spans.{AreSpans}
use Rattle.transactions.specs.declared.again.Rescanned.{Rescanned}
use Rattle.transactions.specs.declared.spans.Span.{Span}

-- the rows that were taken so far, their spans, and how many more there is room for, if there is a limit
pub record SoFar : Type 0 where
  pub rows : Rows
  pub spans : List Span
  pub room : Option ℕ

-- these rows were taken, and the spans are theirs
pub record HasFound (scan : Scan) (contents : Contents) (found : SoFar) (rows : Rows) : Type 0 where
  pub taken : found.rows ≡ rows
  pub spans : AreSpans scan contents rows found.spans

-- Behind what was found it has the scan's rows of what is shown, as many as there was room for, as soon as that was
-- known, where these spans are of the rows of before: in all that is known, be it more.
abbrev pub TakesMore : Scan → Rows → List Span → Contents → (Contents → Option Rows) → SoFar → SoFar → Type 0
TakesMore scan told known contents shown old new = (before all : Contents) → IsPrefix before contents
    → IsPrefix before all → AreSpans scan all told known → IsTree (shown before)
    → Took (HasFound scan all) old new old.room new.room (taken scan old.room (rows_or (shown before)))

-- what was found of these rows beside those of before: the rows, if they are others, and their spans
pub record IsRescanned (scan : Scan) (contents : Contents) (told rows : Rows) (found : Rescanned) : Type 0 where
  pub some : IfSome found.others (λ others. others.items ≡ rows)
  pub same : IfNone found.others (told ≡ rows)
  pub spans : AreSpans scan contents rows found.spans
