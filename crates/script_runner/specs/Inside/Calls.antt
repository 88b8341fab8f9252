-- A line whose client made its call, before it is printed.
use Rattle.std.specs.Prelude.{◌≡◌, ℕ, List, Option, Some, slice_get, slice_set}
use Rattle.group_history.specs.Meaning.{Meanings}
use Rattle.head_word.specs.Marks.{Known}
use Rattle.client_desk.specs.Places.{PlaceState}
use Rattle.client_desk.specs.Told.{Told}
use Rattle.script_parser.specs.declared.script.Command.{Command}
use Rattle.script_runner.specs.Commanding.{LearnsFirst, MayTell, Player}
use Rattle.script_runner.specs.Sights.{seen_behind, sight_at}

-- the client at a place learnt what the lines before have seen, and did the command; the others stay as they are
pub record IsCalledAt (means : Meanings) (sights : List (Option Known)) (seen : Option Known) (place : ℕ) (c : Command)
    (before : List Player) (t : Told) (after : List Player) (now : Option Known) : Type 0 where
  pub client : Player
  pub at : slice_get before place ≡ Some client
  pub mid : PlaceState
  pub learnt : LearnsFirst seen client.place mid
  pub next : Player
  pub may : MayTell means sights c mid t next.place
  pub name : next.name ≡ client.name
  pub left : after ≡ slice_set before place next
  pub sees : now ≡ seen_behind mid.reading seen (sight_at next.place)
