-- What is known of the clients of a script whose lines are done one by one while it goes on, and what at its end.
--
-- No other seat of the group adds to its record, as these clients have all seats. While lines are done one can't see
-- that in the record; at the end, where all clients learn of each other, it is counted.
use Rattle.std.specs.Prelude.{◌≡◌, ℕ, suc, ◌≤◌, List, length, filter, Option, Some, None, slice_get}
use Rattle.std.specs.List.{sum_by}
use Rattle.head_word.specs.Marks.{Known}
use Rattle.linearized.specs.Answered.{is_move, own_moves}
use Rattle.rebase.specs.Clients.{ClientState}
use Rattle.client_desk.specs.Places.{client_at}
use Rattle.script_runner.specs.Commanding.{Player}
use Rattle.script_runner.specs.Sights.{sight_at}
use Rattle.script_runner.specs.Inside.Records.{AreSeated}

-- how often the seat of a client has moved the head, where there is one
abbrev pub own_count : Option ClientState → ℕ
own_count None = 0
own_count (Some c) = length (own_moves c.seat.mark)

abbrev pub own_at : Player → ℕ
own_at p = own_count (client_at p.place)

-- how often the head was moved, as the lines have seen; once, by the opening, before the first one
abbrev pub moves_seen : Option Known → ℕ
moves_seen None = 1
moves_seen (Some seen) = length (filter is_move seen.log)

-- but for the opening these clients have made all moves that the lines have seen
abbrev pub IsWhole : List Player → Option Known → Type 0
IsWhole players seen = moves_seen seen ≤ suc (sum_by own_at players)

-- The clients are at their places, each on the seat of its number; the lines have seen each move that they made, and
-- what they have seen one client has.
pub record AreSteady (players : List Player) (seen : Option Known) : Type 0 where
  pub commit : ℕ
  pub seated : AreSeated (length players) commit players
  pub counted : suc (sum_by own_at players) ≤ moves_seen seen
  pub last : (known : Known) → seen ≡ Some known
      → (place : ℕ) × (p : Player) × (slice_get players place ≡ Some p) × (sight_at p.place ≡ Some known)

-- From the one to the other nothing was lost of that; and where all moves are the clients' at the end, they were at
-- the beginning.
abbrev pub StaySteady : List Player → Option Known → List Player → Option Known → Type 0
StaySteady old seen new now = AreSteady old seen → AreSteady new now × (IsWhole new now → IsWhole old seen)
