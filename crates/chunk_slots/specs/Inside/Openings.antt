-- What a store opens with.
use Rattle.std.specs.Prelude.{ℕ, ◌≡◌, ◌≢◌, ◌<◌, List, [], ◌∷◌}
use Rattle.logbook.specs.Pages.{Book}
use Rattle.head_word.specs.declared.entry.Entry.{Entry}
use Rattle.head_word.specs.Marks.{Known}
use Rattle.reader_claims.specs.Seats.{ClaimsId, Seated}
use Rattle.reader_claims.specs.Deeds as deed
use Rattle.reader_claims.specs.declared.words.Pin.TheVariants.{Absent}
use Rattle.chunk_slots.specs.Seats.{IsIdle}

-- the mark is of this book, and knows just this of it
abbrev pub Knows : Book → List Entry → Known → Type 0
Knows book log mark = (mark.book ≡ book) × (mark.log ≡ log)

-- the seat is of this table, with no pin and no taken slot
abbrev pub IsSeatReady : ClaimsId → Seated → Type 0
IsSeatReady claims s = (s.table ≡ claims) × IsIdle s.view

-- the seat is of this table, with no pin, and has taken these two slots of it alone; it did nothing else to slots
abbrev pub HasBoth : ClaimsId → ℕ → ℕ → Seated → Type 0
HasBoth claims leaf commit s =
    (s.table ≡ claims) × (s.view.pin ≡ Absent) × (s.view.taken ≡ commit ∷ leaf ∷ []) × (leaf ≢ commit)
    × (leaf < claims.sizes.slots) × (commit < claims.sizes.slots) × (s.view.settled ≡ [])
    × (s.view.deeds ≡ deed.took commit ∷ deed.took leaf ∷ [])
