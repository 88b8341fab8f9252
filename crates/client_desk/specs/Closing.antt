-- What is left of a place that is closed.
--
-- Who sits there leaves as by a call (`Leaves`, `LeavesAsked`): a change that asks for a run is given up first. The
-- seat is answered, and nothing else of the place is left.
use Rattle.std.specs.Prelude.{◌≡◌, Option, Some, None, IfSome}
use Rattle.group_history.specs.Meaning.{Meanings}
use Rattle.commit_graph.specs.Seats.{SeatState}
use Rattle.client_desk.specs.Answers.{HasLeft}
use Rattle.client_desk.specs.Drafts.{HasLeftAsked}
use Rattle.client_desk.specs.Places.{PlaceState}

-- a seat is answered, and it is one of these
abbrev pub IsBack : (SeatState → Type 0) → Option SeatState → Type 0
IsBack is (Some seat) = is seat
IsBack is None = ⊥

-- A place is closed: its seat, if nobody sits there; the client's, which left, also where it had a reading open; or
-- that of the client whose change was given up.
pub record Closes (means : Meanings) (place : PlaceState) (seat : Option SeatState) : Type 0 where
  pub free : IfSome place.seat (λ was. IsBack (λ s. s ≡ was) seat)
  pub left : IfSome place.client (λ client. IsBack (HasLeft client) seat)
  pub read : IfSome place.reading (λ client. IsBack (HasLeft client) seat)
  pub gave : IfSome place.asking (λ asking. IsBack (HasLeftAsked means asking) seat)
