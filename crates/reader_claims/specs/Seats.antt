-- What clauses see of a table and of a seat.
use Rattle.std.specs.Prelude.{◌≡◌, ℕ, ◌-◌, ◌/◌, List, length}
use Rattle.std.specs.List.{All}
use Rattle.atomic_table.specs.Seated.{TableId}
use Rattle.reader_claims.specs.declared.words.Pin.{Pin}
use Rattle.reader_claims.specs.declared.words.Pin.TheVariants.{Absent, Held}
use Rattle.reader_claims.specs.declared.view.Sizes.{Sizes}
use Rattle.reader_claims.specs.declared.view.View.{View}
use Rattle.reader_claims.specs.declared.slot.Kind.{Kind}
use Rattle.reader_claims.specs.declared.slot.Kind.TheVariants.{Ordinary, PullEnd}
use Rattle.reader_claims.specs.Views.{reader}

-- which table it is, which no other one shares, and how many readers and slots it has
pub record ClaimsId : Type 0 where
  pub table : TableId
  pub sizes : Sizes

-- a seat: the table that it is of, and what it knows
pub record Seated : Type 0 where
  pub table : ClaimsId
  pub view : View

-- the last quarter of the slots is reserved
abbrev pub first_reserved : Sizes → ℕ
first_reserved k = k.slots - k.slots / 4

-- the slots that a call looks at are those below
abbrev pub kind_end : Sizes → Kind → ℕ
kind_end k Ordinary = first_reserved k
kind_end k PullEnd = k.slots

-- the seat is of this table, holds nothing and has seen nothing
abbrev pub IsNew : ClaimsId → Seated → Type 0
IsNew z s = (s.table ≡ z) × (s.view ≡ reader z.sizes s.view.number)

abbrev pub AreSeats : ClaimsId → ℕ → List Seated → Type 0
AreSeats z n seats = (length seats ≡ n) × All (IsNew z) seats

-- a pin that is held or absent stays so
pub record KeepsPin (p q : Pin) : Type 0 where
  pub held : (e : ℕ) → p ≡ Held e → q ≡ Held e
  pub absent : p ≡ Absent → q ≡ Absent
