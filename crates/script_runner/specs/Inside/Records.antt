-- How the one record of a run is found, in the code.
use Rattle.std.specs.Prelude.{ℕ, ◌≡◌, ◌⊎◌, ◌<◌, ◌≤◌, List, [], length, slice_index_or, Option, Some, None}
use mathlib.Core.List.{IsPrefix}
use Rattle.head_word.specs.declared.entry.Entry.{Entry}
use Rattle.head_word.specs.Books.{book_opening, opening_ref}
use Rattle.head_word.specs.Marks.{own}
use Rattle.commit_graph.specs.Seats.{IsSameSeat}
use Rattle.rebase.specs.Clients.{ClientState}
use Rattle.client_desk.specs.Places.{PlaceState}
use Rattle.script_runner.specs.Commanding.{Player}
use Rattle.script_runner.specs.declared.phase.ClientTurn.{ClientTurn}

-- the client sits at the place, and no reading is open; or it has one open there
abbrev pub SitsAt : ClientState → PlaceState → Type 0
SitsAt client p = (p.client ≡ Some client) × (p.reading ≡ None)

abbrev pub ReadsAt : ClientState → PlaceState → Type 0
ReadsAt client p = (p.client ≡ None) × (p.reading ≡ Some client)

-- it is the client of the place, where no run is asked for
pub record IsClientOf (client : ClientState) (p : PlaceState) : Type 0 where
  pub at : SitsAt client p ⊎ ReadsAt client p
  pub calm : p.asking ≡ None

-- A place of a group that was opened for so many has a client, by its seat's number.
pub record IsSeated (count commit number : ℕ) (p : PlaceState) : Type 0 where
  pub client : ClientState
  pub is : IsClientOf client p
  pub seat : client.seat.mark.seat ≡ Some number
  pub opened : IsPrefix (book_opening count (opening_ref commit)) client.seat.mark.log

-- so do clients at all places
abbrev pub AreSeated : ℕ → ℕ → List Player → Type 0
AreSeated count commit players = (i : ℕ) (p : Player) → i < length players
    → IsSeated count commit i (slice_index_or players i p).place

-- The client of a turn learnt what others had seen: it is on its seat still, and its seat added nothing.
pub record HasLearnt {M : Type 0} (old new : ClientTurn M) : Type 0 where
  pub client : ClientState
  pub next : ClientState
  pub sat : old.client.place.client ≡ Some client
  pub sits : new.client.place.client ≡ Some next
  pub seat : IsSameSeat client.seat next.seat
  pub own : own next.seat.mark ≡ own client.seat.mark
  pub group : new.client.place.group ≡ old.client.place.group

-- what was seen at a place
abbrev pub log_of : Option ClientState → List Entry
log_of None = []
log_of (Some c) = c.seat.mark.log

abbrev pub log_at : {M : Type 0} → ClientTurn M → List Entry
log_at turn = log_of turn.client.place.client

-- the client of the one turn has seen all that the client of the other one has
abbrev pub HasSeen : {M : Type 0} → ClientTurn M → ClientTurn M → Type 0
HasSeen turn other = IsPrefix (log_at other) (log_at turn)

-- the clients of these turns sit at their places
abbrev pub IsSitting : {M : Type 0} → ClientTurn M → Type 0
IsSitting turn = (c : ClientState) × (turn.client.place.client ≡ Some c)

-- or they are the clients of these
abbrev pub IsManned : {M : Type 0} → ClientTurn M → Type 0
IsManned turn = (c : ClientState) × IsClientOf c turn.client.place

-- The client of a turn sits at its place, and no reading of it is open: one that was has ended. It knows what it knew.
pub record HasReadThrough {M : Type 0} (old new : ClientTurn M) : Type 0 where
  pub client : ClientState
  pub next : ClientState
  pub was : IsClientOf client old.client.place
  pub sits : SitsAt next new.client.place
  pub calm : new.client.place.asking ≡ None
  pub mark : next.seat.mark ≡ client.seat.mark
  pub group : new.client.place.group ≡ old.client.place.group

-- so do the first n of these, and the rest are as they were
pub record HaveReadThrough {M : Type 0} (n : ℕ) (old new : List (ClientTurn M)) : Type 0 where
  pub count : length new ≡ length old
  pub each : (k : ℕ) (d : ClientTurn M) → k < n → k < length old
      → HasReadThrough (slice_index_or old k d) (slice_index_or new k d)
  pub rest : (k : ℕ) (d : ClientTurn M) → n ≤ k → k < length old → slice_index_or new k d ≡ slice_index_or old k d

-- the first n of these clients have learnt what the client of the other turn has seen; the rest are as they were
pub record AreConfirmed {M : Type 0} (n : ℕ) (other : ClientTurn M) (old new : List (ClientTurn M)) : Type 0 where
  pub count : length new ≡ length old
  pub each : (k : ℕ) (d : ClientTurn M) → k < n → k < length old
      → HasLearnt (slice_index_or old k d) (slice_index_or new k d) × HasSeen (slice_index_or new k d) other
  pub rest : (k : ℕ) (d : ClientTurn M) → n ≤ k → k < length old → slice_index_or new k d ≡ slice_index_or old k d
