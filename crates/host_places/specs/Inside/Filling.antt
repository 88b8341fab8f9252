-- Places that are made, one after another.
use Rattle.std.specs.Prelude.{◌≡◌, ◌++◌, ◌∷◌, [], List}
use Rattle.commit_graph.specs.Seats.{SeatState}
use Rattle.rebase.specs.Clients.{Grouped}
use Rattle.host_places.specs.Desks.{DeskState}
use Rattle.client_desk.specs.Places.{free_place}

-- one more was made, at which nobody sits yet
abbrev pub IsDeskAdded : Grouped → SeatState → List DeskState → List DeskState → Type 0
IsDeskAdded group seat old new = (desk : DeskState) × (desk.place ≡ free_place group seat) × (new ≡ old ++ desk ∷ [])
