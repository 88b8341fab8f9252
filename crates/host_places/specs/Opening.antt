-- What a group is opened with, and its places then.
use Rattle.std.specs.Prelude.{ℕ, ◌≡◌, ◌⊎◌, List, length, Option, Some, None, Result, Ok, Err}
use Rattle.std.specs.List.{All}
use Rattle.group_history.specs.declared.refusals.Refusal.TheVariants.{Busy, Full, NoMemory}
use Rattle.group_history.specs.Map.{Bytes}
use Rattle.commit_graph.specs.Seats.{IsSeatOf, SeatState}
use Rattle.head_word.specs.Books.{book_opening, opening_ref}
use Rattle.push_body.specs.declared.identities.Identity.{Identity}
use Rattle.rebase.specs.declared.config.OutOfRange.{OutOfRange}
use Rattle.rebase.specs.Clients.{Grouped}
use Rattle.rebase.specs.Configs.{Layout, out_of_range}
use Rattle.uuid.specs.Text.{hyphenated_text, lower}
use Rattle.client_desk.specs.declared.faults.CallFault.TheVariants as fault
use Rattle.host_places.specs.declared.opening.GroupOpening.{GroupOpening}
use Rattle.client_desk.specs.declared.outcomes.Outcome.{Outcome}
use Rattle.client_desk.specs.declared.outcomes.Outcome.TheVariants.{Faulty, Refused}
use Rattle.group_history.specs.Answers.{◌>>=◌}
use Rattle.host_places.specs.Asking.{text_said, uuid_given}
use Rattle.client_desk.specs.Places.{PlaceState, free_place}

-- whose requests the group writes: its ID is a UUID, the others are texts
abbrev pub id_said : Bytes → Result Bytes Outcome
id_said id = uuid_given id >>= (λ uuid. Ok (hyphenated_text lower uuid))

abbrev pub identity_said : Bytes → Bytes → Bytes → Result Identity Outcome
identity_said id profile schema =
    id_said id >>= (λ group. text_said profile >>= (λ p. text_said schema
    >>= (λ s. Ok (record { group = group; profile = p; schema = s }))))

-- with so many slots and places
abbrev pub laid_out : Option OutOfRange → Identity → ℕ → ℕ → Result Layout Outcome
laid_out None identity slots seats = Ok (record { identity = identity; slots = slots; seats = seats })
laid_out (Some e) identity slots seats = Err (Faulty fault.OutOfRange)

abbrev pub layout_said : Bytes → Bytes → Bytes → ℕ → ℕ → Result Layout Outcome
layout_said id profile schema slots seats =
    identity_said id profile schema >>= (λ i. laid_out (out_of_range slots seats) i slots seats)

abbrev pub layout_for : GroupOpening → Result Layout Outcome
layout_for with_ = layout_said with_.id.now with_.profile.now with_.schema.now with_.slots with_.places

-- the seat has seen the opening of the group's book alone, which is for as many seats as its table
abbrev pub SawOpening : Grouped → ℕ → SeatState → Type 0
SawOpening group commit seat = seat.mark.log ≡ book_opening group.group.table.sizes.readers (opening_ref commit)

-- A place of a group that was just opened: nobody sits there, and its seat has seen the opening of the group's book
-- alone.
pub record IsFreshPlace (group : Grouped) (commit : ℕ) (p : PlaceState) : Type 0 where
  pub seat : SeatState
  pub home : IsSeatOf group.group seat
  pub seen : SawOpening group commit seat
  pub free : p ≡ free_place group seat

-- the places of a group that was just opened with this layout
pub record AreOpened (layout : Layout) (places : List PlaceState) : Type 0 where
  pub group : Grouped
  pub commit : ℕ
  pub identity : group.identity ≡ layout.identity
  pub sizes : group.group.table.sizes ≡ record { readers = layout.seats; slots = layout.slots }
  pub count : length places ≡ layout.seats
  pub all : All (IsFreshPlace group commit) places

-- a refusal for want of something
abbrev pub IsWantToOpen : Outcome → Type 0
IsWantToOpen e = (e ≡ Refused NoMemory) ⊎ (e ≡ Refused Busy) ⊎ (e ≡ Refused Full)
