-- Chunks that have the rows of a scan among theirs.
use Rattle.std.specs.Prelude.{◌≡◌, ◌++◌, ℕ, List, [], ◌∷◌, Option, Some, option_map, option_and_then}
use Rattle.group_history.specs.declared.scans.Scan.{Scan}
use Rattle.group_history.specs.Rows.{Rows}
use Rattle.group_history.specs.Spelling.{Contents}
use Rattle.map_chunks.specs.Scanning.{scanned}
use Rattle.map_chunks.specs.Shown.{chunk_rows}

-- the rows of the chunks of these stamps, one chunk after another
abbrev pub rows_together : Contents → List ℕ → Option Rows
rows_together contents [] = Some []
rows_together contents (k ∷ ks) = option_and_then (λ rows.
    option_map (λ more. rows ++ more) (rows_together contents ks))
    (chunk_rows contents k)

-- of the rows of these chunks the scan has these, before its limit is looked at
abbrev pub Covers : Scan → Contents → List ℕ → Rows → Type 0
Covers scan contents stamps rows = option_map (scanned scan) (rows_together contents stamps) ≡ Some rows
