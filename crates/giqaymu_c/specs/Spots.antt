-- How a place of a host stands.
use Rattle.std.specs.Prelude.{List, ◌∷◌, ◌++◌, [], map}
use Rattle.host_places.specs.Desks.{DeskState}
use Rattle.client_desk.specs.Places.{PlaceState}

-- A desk, and those of its group that are not given out yet.
pub record SpotState : Type 0 where
  pub desk : DeskState
  pub spare : List DeskState

-- the places of all of them
abbrev pub desk_places : SpotState → List PlaceState
desk_places s = map (λ d. d.place) (s.spare ++ s.desk ∷ [])
