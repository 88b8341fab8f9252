-- How a place stands. This project's own words.
use Rattle.std.specs.Prelude.{ℕ, [], List, Option, Some, None}
use Rattle.std.specs.Option.{option_or}
use Rattle.commit_graph.specs.Seats.{SeatState}
use Rattle.rebase.specs.Clients.{ClientState, Grouped}
use Rattle.rebase.specs.Running.{UnderWay}
use Rattle.rebase.specs.Watching.{Watched}
use Rattle.rebase.specs.declared.tickets.Ticket.{Ticket}

-- A place at a group: the seat while nobody sits there, the client that sits there, the change of that client that asks
-- for a run, or the client that has a reading open; what the client keeps under numbers: tickets, and watches; and the
-- moment of the query that was answered there last, 0 before the first.
pub record PlaceState : Type 0 where
  pub group : Grouped
  pub seat : Option SeatState
  pub client : Option ClientState
  pub asking : Option UnderWay
  pub reading : Option ClientState
  pub tickets : List (Option Ticket)
  pub watches : List (Option Watched)
  pub moment : ℕ

-- nobody sits there, and nothing is kept
abbrev pub free_place : Grouped → SeatState → PlaceState
free_place group seat = record {
  group = group;
  seat = Some seat;
  client = None;
  asking = None;
  reading = None;
  tickets = [];
  watches = [];
  moment = 0;
}

-- a client sat down
abbrev pub sat : ClientState → PlaceState → PlaceState
sat c p = record p { seat = None; client = Some c }

-- the seat was handed back, since the client that was to sit there was refused
abbrev pub unsat : SeatState → PlaceState → PlaceState
unsat seat p = record p { seat = Some seat }

-- the client made a call, and stands so now
abbrev pub with_client : ClientState → PlaceState → PlaceState
with_client c p = record p { client = Some c }

-- a query was answered there, at this moment
abbrev pub with_moment : ℕ → PlaceState → PlaceState
with_moment n p = record p { moment = n }

-- its change ended, and it sits there again
abbrev pub back_at : ClientState → PlaceState → PlaceState
back_at c p = record p { client = Some c; asking = None }

-- its change asks for this run
abbrev pub with_asking : UnderWay → PlaceState → PlaceState
with_asking a p = record p { client = None; asking = Some a }

-- it made a call, and these are its tickets now, or its watches
abbrev pub with_tickets : ClientState → List (Option Ticket) → PlaceState → PlaceState
with_tickets c ts p = record p { client = Some c; tickets = ts }

abbrev pub with_watches : ClientState → List (Option Watched) → PlaceState → PlaceState
with_watches c ws p = record p { client = Some c; watches = ws }

-- it has a reading open
abbrev pub with_reading : ClientState → PlaceState → PlaceState
with_reading r p = record p { client = None; reading = Some r }

-- which has ended
abbrev pub read_through : ClientState → PlaceState → PlaceState
read_through c p = record p { client = Some c; reading = None }

-- the client of the place, also where it has a reading open
abbrev pub client_at : PlaceState → Option ClientState
client_at p = option_or p.client p.reading
