-- The clients of a script whose lines are done one by one.
use Rattle.std.specs.Prelude.{◌≡◌, ℕ, List, [], Option, Some, None, slice_get, slice_set}
use Rattle.group_history.specs.declared.changes.Change.{Change}
use Rattle.group_history.specs.Map.{Bytes}
use Rattle.group_history.specs.Meaning.{Meanings}
use Rattle.head_word.specs.Books.{record_of}
use Rattle.head_word.specs.Laws.{moment}
use Rattle.head_word.specs.Marks.{Known}
use Rattle.client_desk.specs.Places.{PlaceState}
use Rattle.script_parser.specs.declared.script.Command.{Command}
use Rattle.script_runner.specs.declared.clients.Clients.{Clients}
use Rattle.script_runner.specs.Commanding.{LearnsFirst, MayPrint, Player}
use Rattle.script_runner.specs.Printing.{line_text}
use Rattle.script_runner.specs.Sights.{seen_behind, sight_at}
use Rattle.script_runner.specs.Inside.Players.{players_of}

-- how the clients stand
abbrev pub players_in : {M : Type 0} → Clients M → List Player
players_in clients = players_of clients.turns.items

-- what each had seen when the phase began
abbrev pub sights_in : {M : Type 0} → Clients M → List (Option Known)
sights_in clients = clients.sights.items

-- what the lines so far have seen of the group; nothing before the first one
abbrev pub seen_in : {M : Type 0} → Clients M → Option Known
seen_in clients = clients.seen

-- In a group whose mutators mean this: the client at a place does the command of a line, and the text is its line of
-- output. First it learns what the lines before have seen, unless it has a reading open; and what is seen behind the
-- line is what the next line's client learns. The other clients stay as they are.
pub record IsToldAt (means : Meanings) (sights : List (Option Known)) (seen : Option Known) (place : ℕ)
    (l : ℕ × Command) (before : List Player) (text : Bytes) (after : List Player) (now : Option Known) : Type 0 where
  pub client : Player
  pub at : slice_get before place ≡ Some client
  pub mid : PlaceState
  pub learnt : LearnsFirst seen client.place mid
  pub told : Bytes
  pub next : Player
  pub may : MayPrint means sights (record client { place = mid }) l.1 told next
  pub name : next.name ≡ client.name
  pub printed : text ≡ line_text l.0 client.name told
  pub left : after ≡ slice_set before place next
  pub sees : now ≡ seen_behind mid.reading seen (sight_at next.place)

-- the record of what was seen; before the first line no change was made
abbrev pub record_seen : Option Known → List Change
record_seen None = []
record_seen (Some seen) = record_of seen.log

-- the number of the moment of what was seen
abbrev pub moment_seen : Option Known → ℕ
moment_seen None = 0
moment_seen (Some seen) = moment seen.log
