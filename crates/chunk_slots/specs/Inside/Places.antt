-- What is true of every arena, and of its seats.
use Rattle.std.specs.Prelude.{ℕ, ◌≡◌, ◌<◌, ◌≤◌}
use Rattle.logbook.specs.Pages.{Book}
use Rattle.group_history.specs.Refs.{max_slots}
use Rattle.head_word.specs.Marks.{Known}
use Rattle.reader_claims.specs.Lists.{In}
use Rattle.reader_claims.specs.Seats.{ClaimsId, Seated}
use Rattle.chunk_slots.specs.Inside.Blocks.{Room}

-- the slot's tag is of this book
abbrev pub IsOfBook : Book → Known → Type 0
IsOfBook book tag = tag.book ≡ book

-- a place for each slot of the claims table
abbrev pub HasPlaces : ClaimsId → Room → Type 0
HasPlaces claims room = (room.slots ≡ claims.sizes.slots) × (claims.sizes.slots ≤ max_slots)

-- the slots that the seat has taken are of its table
abbrev pub IsWithinTable : Seated → Type 0
IsWithinTable s = (s.view.sizes ≡ s.table.sizes) × ((slot : ℕ) → In s.view.taken slot → slot < s.table.sizes.slots)
