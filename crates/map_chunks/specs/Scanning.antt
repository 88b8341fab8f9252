-- A scan of rows that stand one part after another.
use Rattle.std.specs.Prelude.{◌≡◌, ◌-◌, ℕ, Bool, false, not, nat_eq, ◌&&◌, ◌||◌, length, filter, Option, Some, None}
use Rattle.std.specs.Prelude.{Result, Ok, Err}
use Rattle.std.specs.List.{starts_with}
use Rattle.std.specs.Ordering.{nat_cmp}
use Rattle.std.specs.Cmp.Lexicographic.{slice_cmp}
use Rattle.std.specs.declared.cmp.Ordering.TheVariants.{Less}
use Rattle.group_history.specs.declared.scans.Scan.{Scan}
use Rattle.group_history.specs.Map.{Bytes}
use Rattle.group_history.specs.Rows.{Rows}
use Rattle.group_history.specs.Scans.{is_in, limited}
use Rattle.map_chunks.specs.Search.{is_above}
use Rattle.map_chunks.specs.Sinks.{HasMore, HasBegun}

-- the rows that the scan has, before its limit is looked at
abbrev pub scanned : Scan → Rows → Rows
scanned scan rows = filter (λ e. is_in scan e.0) rows

-- of the rows that the scan has, as many as there is room for
abbrev pub taken : Scan → Option ℕ → Rows → Rows
taken scan room rows = limited room (scanned scan rows)

-- the room that is left where so many rows were taken
abbrev pub left : Option ℕ → ℕ → Option ℕ
left None n = None
left (Some room) n = Some (room - n)

-- the sink has these rows more, and there is room for as many fewer
pub record Took {S : Type 0} (has : S → Rows → Type 0) (old new : S) (before after : Option ℕ)
    (more : Rows) : Type 0 where
  pub rows : HasMore has old new more
  pub room : after ≡ left before (length more)

-- what is answered is the room behind all of these rows; where that is refused the sink has a beginning of them
abbrev pub Gave : {S E : Type 0} → (S → Rows → Type 0) → S → S → Option ℕ → Result (Option ℕ) E → Rows → Type 0
Gave has old new room (Ok after) more = Took has old new room after more
Gave has old new room (Err e) more = HasBegun has old new more

-- no key below this one is in the scan
abbrev pub IsLow : Scan → Bytes → Type 0
IsLow scan low = (k : Bytes) → slice_cmp nat_cmp k low ≡ Less → is_in scan k ≡ false

-- the key is above the prefix, and doesn't begin with it
abbrev pub is_past : Scan → Bytes → Bool
is_past scan key = is_above key scan.prefix && not (starts_with nat_eq key scan.prefix)

-- there is room for none
abbrev pub is_full : Option ℕ → Bool
is_full None = false
is_full (Some room) = nat_eq room 0

-- nothing from this key on is taken, where there is so much room
abbrev pub is_over : Scan → Option ℕ → Bytes → Bool
is_over scan room key = is_full room || is_past scan key
