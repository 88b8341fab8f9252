-- Who sits at a place.
use Rattle.std.specs.Prelude.{Option, Some, None}
use Rattle.commit_graph.specs.Seats.{SeatState}
use Rattle.rebase.specs.Clients.{ClientState}
use Rattle.rebase.specs.Running.{UnderWay}
use Rattle.client_desk.specs.declared.sitting.Sitting.{Sitting}
use Rattle.client_desk.specs.declared.sitting.Sitting.TheVariants as sits

-- the seat at which nobody sits
abbrev pub seat_of : {M : Type 0} → Sitting M → Option SeatState
seat_of (sits.Nobody seat) = Some seat
seat_of (sits.Client c) = None
seat_of (sits.Asking a) = None
seat_of (sits.Reading r) = None
seat_of sits.Moving = None

-- the client
abbrev pub client_of : {M : Type 0} → Sitting M → Option ClientState
client_of (sits.Nobody seat) = None
client_of (sits.Client c) = Some c
client_of (sits.Asking a) = None
client_of (sits.Reading r) = None
client_of sits.Moving = None

-- the run that its change asks for
abbrev pub asking_of : {M : Type 0} → Sitting M → Option UnderWay
asking_of (sits.Nobody seat) = None
asking_of (sits.Client c) = None
asking_of (sits.Asking a) = Some a
asking_of (sits.Reading r) = None
asking_of sits.Moving = None

-- the client that has a reading open
abbrev pub reading_of : {M : Type 0} → Sitting M → Option ClientState
reading_of (sits.Nobody seat) = None
reading_of (sits.Client c) = None
reading_of (sits.Asking a) = None
reading_of (sits.Reading r) = Some r
reading_of sits.Moving = None
