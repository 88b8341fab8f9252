-- What changed between two lists of rows: of each key its value before and its value after, where these are two.
-- Rows stand in the strict order of their keys; a value is a compact JSON text.
-- Source: Replicache, experimentalWatch, "ExperimentalDiffOperation"; that keys are ordered by their bytes is this
-- project's own rule.
use Rattle.std.specs.Prelude.{◌≡◌, T, List, map, Option, Some, None, if◌then◌else◌}
use Rattle.std.specs.Option.{option_eq}
use Rattle.std.specs.Ordering.{nat_cmp}
use Rattle.std.specs.Cmp.Lexicographic.{slice_cmp}
use Rattle.std.specs.FinMap as finite
use Rattle.group_history.specs.Map.{Bytes, same_text}
use Rattle.group_history.specs.Rows.{Rows, keys_of, rises}
use Rattle.row_changes.specs.declared.changes.RowChange.{RowChange}

-- the value before, and the value after; none where the key is not there
abbrev pub Values : Type 0
Values = Option Bytes × Option Bytes

-- the value that rows have at a key; none where they haven't the key
abbrev pub value_in : Rows → Bytes → Option Bytes
value_in rows key = finite.find (slice_cmp nat_cmp) key rows

-- what is to be told of a key that had the old value and has the new one: nothing where they are one, and else both
abbrev pub between : Option Bytes → Option Bytes → Option Values
between old new = if option_eq same_text old new then None else Some (old, new)

-- what changes tell, under its keys
abbrev pub values_told : List RowChange → List (Bytes × Values)
values_told changes = map (λ c. (c.key, (c.old, c.new))) changes

-- what they tell of a key; none where they tell nothing of it
abbrev pub change_at : List RowChange → Bytes → Option Values
change_at changes key = finite.find (slice_cmp nat_cmp) key (values_told changes)

-- the changes between two lists of rows: they stand in the strict order of their keys, and of each key they tell what
-- is to be told of it, so nothing else is told and nothing is left out
pub record AreChanges (old new : Rows) (changes : List RowChange) : Type 0 where
  pub ascending : T (rises (keys_of (values_told changes)))
  pub each : (key : Bytes) → change_at changes key ≡ between (value_in old key) (value_in new key)
