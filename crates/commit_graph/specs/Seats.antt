-- What the clients of a group share, what a seat of a group has, and what a call leaves of it. This project's own
-- words.
use Rattle.std.specs.Prelude.{◌≡◌, ◌≤◌, Bool, true, false}
use mathlib.Core.List.{IsPrefix}
use Rattle.logbook.specs.Pages.{Book}
use Rattle.head_word.specs.Marks.{Known, own}
use Rattle.reader_claims.specs.declared.view.View.{View}
use Rattle.reader_claims.specs.declared.words.Pin.{Pin}
use Rattle.reader_claims.specs.declared.words.Pin.TheVariants.{Held}
use Rattle.reader_claims.specs.Seats.{ClaimsId}

-- which group it is: by the book of its head, and the claims table of its store
pub record GroupId : Type 0 where
  pub book : Book
  pub table : ClaimsId

-- a seat: which claims table it is of, what it knows of that, and what it has seen of the book
pub record SeatState : Type 0 where
  pub table : ClaimsId
  pub view : View
  pub mark : Known

-- it is a seat of this group
abbrev pub IsSeatOf : GroupId → SeatState → Type 0
IsSeatOf group seat = (seat.mark.book ≡ group.book) × (seat.table ≡ group.table)

-- the pin is held, at some epoch
abbrev pub is_held : Pin → Bool
is_held (Held epoch) = true
is_held other = false

-- a pin that was held is held still
abbrev pub StaysHeld : View → View → Type 0
StaysHeld v u = is_held v.pin ≡ true → is_held u.pin ≡ true

-- it is a seat of this group, and where slots are used again its pin is held
abbrev pub IsReading : Type 0 → GroupId → SeatState → Type 0
IsReading reused group seat = IsSeatOf group seat × (reused → is_held seat.view.pin ≡ true)

-- What a caller knows later: of the same book, by the same seat, and no less.
pub record IsLater (old new : Known) : Type 0 where
  pub book : new.book ≡ old.book
  pub seat : new.seat ≡ old.seat
  pub seen : IsPrefix old.log new.log

-- It is the same seat of the same group, and knows no less.
pub record IsSameSeat (old new : SeatState) : Type 0 where
  pub table : new.table ≡ old.table
  pub later : IsLater old.mark new.mark

-- It did nothing to slots and to the epoch: it took, settled, withdrew and retired none, and raised nothing. What it
-- has read of the epoch does not fall.
pub record IsCalm (v u : View) : Type 0 where
  pub deeds : u.deeds ≡ v.deeds
  pub taken : u.taken ≡ v.taken
  pub loads : v.epoch_loads ≤ u.epoch_loads
  pub reached : v.reached ≤ u.reached

-- It only looked: it added no entry to the book, and where slots are used again it did nothing to them.
pub record HasLooked (reused : Type 0) (old new : SeatState) : Type 0 where
  pub seat : IsSameSeat old new
  pub own : own new.mark ≡ own old.mark
  pub calm : reused → IsCalm old.view new.view
