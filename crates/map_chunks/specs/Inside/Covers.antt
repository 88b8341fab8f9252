-- Chunks that are added to those that cover a scan.
use Rattle.std.specs.Prelude.{ℕ, List, Option}
use mathlib.Core.List.{IsPrefix}
use Rattle.group_history.specs.declared.scans.Scan.{Scan}
use Rattle.group_history.specs.Rows.{Rows}
use Rattle.group_history.specs.Spelling.{Contents}
use Rattle.map_chunks.specs.Covers.{Covers}
use Rattle.map_chunks.specs.Scanning.{scanned}
use Rattle.map_chunks.specs.Shown.{IsTree, rows_or}
use Rattle.map_chunks.specs.Sinks.{HasMore}

-- The stamps that were added cover the scan's rows of what is shown, as soon as that was known, and behind others.
abbrev pub CoversMore : Scan → Contents → (Contents → Option Rows) → List ℕ → List ℕ → Type 0
CoversMore scan contents shown old new = (before : Contents) → IsPrefix before contents → IsTree (shown before)
    → HasMore (Covers scan before) old new (scanned scan (rows_or (shown before)))
