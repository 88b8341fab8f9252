-- Who is taken from a place and put there in a call.
use Rattle.std.specs.Prelude.{◌≡◌, Bool, None, Some, IfSome}
use Rattle.group_history.specs.Map.{Bytes}
use Rattle.group_history.specs.Meaning.{Meanings}
use Rattle.commit_graph.specs.Seats.{IsSeatOf, SeatState}
use Rattle.change_tries.specs.Missing.{map_ok}
use Rattle.rebase.specs.declared.asking.Asked.{Asked}
use Rattle.rebase.specs.Asked.{TellsAsked}
use Rattle.rebase.specs.Clients.{ClientState, Grouped}
use Rattle.rebase.specs.Replies.{reply_seen}
use Rattle.client_desk.specs.declared.outcomes.Outcome.TheVariants.{Asked as AsksRun}
use Rattle.client_desk.specs.declared.sitting.Sitting.{Sitting}
use Rattle.client_desk.specs.Answers.{HasLeft}
use Rattle.client_desk.specs.Places.{PlaceState, free_place}
use Rattle.client_desk.specs.Runs.{IsAsking}
use Rattle.client_desk.specs.Sitting.{asking_of, client_of, reading_of, seat_of}
use Rattle.client_desk.specs.Told.{Told, replied_told, tells, told_alone}

-- the client is one of this group, on a seat of it
abbrev pub IsAt : Grouped → ClientState → Type 0
IsAt group client = (client.group ≡ group) × IsSeatOf group.group client.seat

-- who sits there is of this group
abbrev pub CanSit : (Bytes → Bool) → Meanings → Grouped → {M : Type 0} → Sitting M → Type 0
CanSit has means group sitting = IfSome (seat_of sitting) (IsSeatOf group.group)
    × IfSome (client_of sitting) (IsAt group)
    × IfSome (asking_of sitting) (IsAsking has means group)
    × IfSome (reading_of sitting) (IsAt group)

abbrev pub with_sitting : {M : Type 0} → Sitting M → PlaceState → PlaceState
with_sitting sitting p = record p {
  seat = seat_of sitting;
  client = client_of sitting;
  asking = asking_of sitting;
  reading = reading_of sitting;
}

-- no change of the place asks for a run, and no reading of it is open
abbrev pub IsAtRest : PlaceState → Type 0
IsAtRest p = (p.asking ≡ None) × (p.reading ≡ None)

-- nobody sits there, and there is no seat: who sat there was taken, and nobody was put there yet
abbrev pub IsTakenFrom : PlaceState → Type 0
IsTakenFrom p = (p.seat ≡ None) × (p.client ≡ None) × (p.asking ≡ None) × (p.reading ≡ None)

-- who sat there was taken
pub record IsTaken (has : Bytes → Bool) (means : Meanings) {M : Type 0} (sitting : Sitting M) (old new : PlaceState)
    : Type 0 where
  pub seat : seat_of sitting ≡ old.seat
  pub client : client_of sitting ≡ old.client
  pub asking : asking_of sitting ≡ old.asking
  pub reading : reading_of sitting ≡ old.reading
  pub fits : CanSit has means new.group sitting
  pub left : new ≡ record old { seat = None; client = None; asking = None; reading = None }

-- the client left, and its tickets and watches are given up
abbrev pub IsPlaceLeft : ClientState → PlaceState → PlaceState → Type 0
IsPlaceLeft client old new = (seat : SeatState) × HasLeft client seat × (new ≡ free_place old.group seat)

-- what a change came to is of this group
abbrev pub IsStepAt : (Bytes → Bool) → Meanings → Grouped → {M S T : Type 0} → Asked M S T → Type 0
IsStepAt has means group step = TellsAsked step (IsAsking has means group) (λ c reply. IsAt group c)

-- it is told, and the place, from which the client was taken, has it
abbrev pub Stands : {M S T : Type 0} → Asked M S T → PlaceState → Told → PlaceState → Type 0
Stands step old t new = TellsAsked step
    (λ a. (t ≡ told_alone AsksRun) × (new ≡ record old { seat = None; client = None; asking = Some a; reading = None }))
    (λ c reply. (t ≡ tells replied_told (map_ok reply_seen reply))
    × (new ≡ record old { seat = None; client = Some c; asking = None; reading = None }))
