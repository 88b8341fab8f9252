-- What a client is, and what its calls leave of it. This project's own words.
use Rattle.std.specs.Prelude.{ℕ, ◌≡◌, ◌⊎◌, ◌<◌, ◌-◌, true, List, [], ◌∷◌, ◌++◌, None, Some, length, map, reverse}
use Rattle.std.specs.Prelude.{slice_index_or}
use Rattle.std.specs.List.{All}
use Rattle.group_history.specs.declared.refusals.Refusal.{Refusal}
use Rattle.group_history.specs.declared.refusals.Refusal.TheVariants as refusal
use Rattle.group_history.specs.Map.{Bytes}
use Rattle.group_history.specs.Meaning.{Meanings}
use Rattle.group_history.specs.State.{last_id}
use Rattle.push_body.specs.declared.identities.Identity.{Identity}
use Rattle.logbook.specs.Pages.{Book}
use Rattle.head_word.specs.declared.entry.Entry.{Entry}
use Rattle.head_word.specs.Books.{book_opening, opening_ref}
use Rattle.head_word.specs.Marks.{known}
use Rattle.chunk_slots.specs.Seats.{IsIdle, IsOpening, IsPinned}
use Rattle.commit_graph.specs.Seats.{GroupId, HasLooked, IsSameSeat, IsSeatOf, SeatState, is_held}
use Rattle.linearized.specs.Answered.{IsAnswered, IsLeft}
use Rattle.change_tries.specs.Missing.{IsStoreOrMemory}

-- a group: which it is, and whose requests it writes
pub record Grouped : Type 0 where
  pub group : GroupId
  pub identity : Identity

abbrev pub grouped : GroupId → Identity → Grouped
grouped group identity = record { group = group; identity = identity }

-- seats of this group
abbrev pub AreSeatsOf : GroupId → List SeatState → Type 0
AreSeatsOf group seats = All (IsSeatOf group) seats

-- the marks of these seats at a book that was opened for n, of which each has seen this much: the last one is number 0
abbrev pub AreNumbered : Book → List Entry → ℕ → List SeatState → Type 0
AreNumbered book log n seats = (i : ℕ) (d : SeatState) → i < length seats
    → (slice_index_or seats i d).mark ≡ known book log (Some (n - 1 - i))

-- The seats of a group that was just opened for so many: each has seen the opening of its book, and no more, and they
-- are numbered. Where slots are used again, one seat took two slots and settled them for the opening's nodes, and no
-- seat did anything else to slots.
pub record AreOpening (reused : Type 0) (count : ℕ) (group : GroupId) (seats : List SeatState) : Type 0 where
  pub commit : ℕ
  pub marks : AreNumbered group.book (book_opening count (opening_ref commit)) count seats
  pub slots : reused → IsOpening group.table.sizes (reverse (map (λ seat. seat.view) seats)) commit

-- the seats of a group that no client has, and how many there is room for
pub record SeatRow : Type 0 where
  pub free : List SeatState
  pub room : ℕ

-- a client: its group, its seat with what it has seen (`mark`), its ID, and its own last id
pub record ClientState : Type 0 where
  pub group : Grouped
  pub seat : SeatState
  pub id : Bytes
  pub last : ℕ

-- it is a client of the same group, by the same ID
abbrev pub IsSameClient : ClientState → ClientState → Type 0
IsSameClient old new = (new.group ≡ old.group) × (new.id ≡ old.id)

-- where slots are used again, it has no pin and no taken slot
abbrev pub HoldsNothing : Type 0 → ClientState → Type 0
HoldsNothing reused client = reused → IsIdle client.seat.view

-- A client of a group by this ID that sat down on a seat: it knows no less than was seen from there, and its last id is
-- the one that the group has.
pub record SitsOn (reused : Type 0) (means : Meanings) (home : Grouped) (name : Bytes) (seat : SeatState)
    (client : ClientState) : Type 0 where
  pub group : client.group ≡ home
  pub id : client.id ≡ name
  pub answer : IsAnswered means seat.mark client.seat.mark None (λ s. last_id s client.id ≡ client.last)
  pub looked : HasLooked reused seat client.seat
  pub rests : HoldsNothing reused client

-- The last of the free seats was tried and came back. Nothing was done to its slots, and it knows no less.
pub record CameBack (reused : Type 0) (tries : ℕ) (old new : List SeatState) (e : Refusal) : Type 0 where
  pub others : List SeatState
  pub seat : SeatState
  pub back : SeatState
  pub was : old ≡ others ++ seat ∷ []
  pub is : new ≡ others ++ back ∷ []
  pub looked : HasLooked reused seat back
  pub missed : IsStoreOrMemory reused e
  pub left : IsLeft tries seat.mark back.mark e

-- Why no client sat down, and what is left of the free seats: there was none, or the last of them came back.
abbrev pub NoneSat : Type 0 → ℕ → List SeatState → List SeatState → Refusal → Type 0
NoneSat reused tries old new e =
    ((e ≡ refusal.NoSeat) × (old ≡ []) × (new ≡ [])) ⊎ CameBack reused tries old new e

-- What a call leaves that may change the group: the same client on the same seat, which knows no less and rests.
pub record AfterChange (reused : Type 0) (old new : ClientState) : Type 0 where
  pub client : IsSameClient old new
  pub seat : IsSameSeat old.seat new.seat
  pub rests : HoldsNothing reused new

-- What a call leaves that looks for the client's last id: it adds nothing, and does nothing to slots.
pub record AfterLook (reused : Type 0) (old new : ClientState) : Type 0 where
  pub client : IsSameClient old new
  pub looked : HasLooked reused old.seat new.seat
  pub rests : HoldsNothing reused new

-- What a query leaves: all that, and the client's last id.
abbrev pub AfterQuery : Type 0 → ClientState → ClientState → Type 0
AfterQuery reused old new = AfterLook reused old new × (new.last ≡ old.last)

-- What a reader has of the client that opened it: it looked, and its pin is held. That pin was stored in the call,
-- after fewer lost tries than the call could make, and no other one since.
pub record AfterRead (reused : Type 0) (tries : ℕ) (old new : ClientState) : Type 0 where
  pub client : IsSameClient old new
  pub looked : HasLooked reused old.seat new.seat
  pub last : new.last ≡ old.last
  pub held : reused → is_held new.seat.view.pin ≡ true
  pub pinned : reused → IsPinned old.seat.view new.seat.view tries
