-- What the client at a place learns of what others have seen.
use Rattle.std.specs.Prelude.{◌≡◌, ⊤, Option, Some, None}
use mathlib.Core.List.{IsPrefix}
use Rattle.head_word.specs.Marks.{Known, known}
use Rattle.commit_graph.specs.Seats.{HasLooked}
use Rattle.rebase.specs.Clients.{ClientState, IsSameClient}
use Rattle.client_desk.specs.Places.{PlaceState, with_client}

-- what others learn from a client: what it has seen
abbrev pub sight_of : ClientState → Known
sight_of c = known c.seat.mark.book c.seat.mark.log None

-- The client has seen what another one had seen too, and made no change.
pub record Learns (client : ClientState) (other : Known) (before after : PlaceState) : Type 0 where
  pub next : ClientState
  pub seen : IsPrefix other.log next.seat.mark.log
  pub looked : HasLooked ⊤ client.seat next.seat
  pub same : IsSameClient client next × (next.last ≡ client.last)
  pub left : after ≡ with_client next before

-- so does the client that sits at a place; where none does, the place is as it was
abbrev pub LearnsAt : Option ClientState → Known → PlaceState → PlaceState → Type 0
LearnsAt (Some client) other before after = Learns client other before after
LearnsAt None other before after = after ≡ before
