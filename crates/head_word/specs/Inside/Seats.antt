-- What holds of a mark's seat.
use Rattle.std.specs.Prelude.{ℕ, ◌≡◌, ◌<◌, List, Option, Some, None}
use Rattle.head_word.specs.declared.entry.Entry.{Entry}
use Rattle.head_word.specs.declared.mark.MarkSeat.{MarkSeat}
use Rattle.head_word.specs.Books.{seats_of}
use Rattle.head_word.specs.Tallies.{key_by, count}
use Rattle.head_word.specs.Inside.Parts.{key_end}

-- the number of the seat, where there is one
abbrev pub number_of_seat : Option MarkSeat → Option ℕ
number_of_seat None = None
number_of_seat (Some s) = Some s.number

-- the seat is one of this book's, and so is its tally, which says how many entries of the seat the book has
pub record HasTally (names : List ℕ) (log : List Entry) (s : MarkSeat) : Type 0 where
  pub names_are : s.tally.names ≡ names
  pub key_is : s.tally.key ≡ key_by (Some s.number)
  pub count_is : s.tally.count ≡ count (key_by (Some s.number)) log
  pub within : key_by (Some s.number) < key_end names
  pub among : s.number < seats_of log

-- the seat, where there is one, has its tally
abbrev pub IfHasTally : List ℕ → List Entry → Option MarkSeat → Type 0
IfHasTally names log None = Unit {0}
IfHasTally names log (Some s) = HasTally names log s
