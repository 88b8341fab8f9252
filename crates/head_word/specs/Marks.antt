-- What a mark shows, and what its seat has added.
use Rattle.std.specs.Prelude.{ℕ, zero, suc, ◌≡◌, ◌-◌, List, [], ◌∷◌, ◌++◌, length, Option, Some, None, IsSome}
use Rattle.logbook.specs.Pages.{Book}
use Rattle.group_history.specs.declared.refusals.Refusal.{Refusal}
use Rattle.group_history.specs.declared.refusals.Refusal.TheVariants as refusal
use Rattle.head_word.specs.declared.lost.Lost.{Lost}
use Rattle.head_word.specs.declared.lost.Lost.TheVariants as lost
use Rattle.head_word.specs.declared.entry.Entry.{Entry}
use Rattle.head_word.specs.Tallies.{key_by, mine}

-- what a caller sees of a mark: which book it is of, how the book begins, and its seat's number where it has one
pub record Known : Type 0 where
  pub book : Book
  pub log : List Entry
  pub seat : Option ℕ

-- a caller has seen this much of the book, and has this seat or none
abbrev pub known : Book → List Entry → Option ℕ → Known
known book log seat = record { book = book; log = log; seat = seat }

-- the entries that this seat has added to the book
abbrev pub own_of : Option ℕ → List Entry → List Entry
own_of None log = []
own_of (Some j) log = mine (key_by (Some j)) log

-- the entries that the mark's seat has added, none without a seat
abbrev pub own : Known → List Entry
own m = own_of m.seat m.log

-- how many entries others have added
abbrev pub others : Known → ℕ
others m = length m.log - length (own m)

-- the marks of the first n seats, at a new book
abbrev pub seated : Book → List Entry → ℕ → List Known
seated book log zero = []
seated book log (suc n) = seated book log n ++ known book log (Some n) ∷ []

-- the mark is of this book, and has a seat
abbrev pub HasSeat : Book → Known → Type 0
HasSeat book m = (m.book ≡ book) × IsSome m.seat

-- the refusal that a lost draft is told as
abbrev pub lost_refusal : Lost → Refusal
lost_refusal lost.Moved = refusal.Moved
lost_refusal lost.Stamps = refusal.Stamps
