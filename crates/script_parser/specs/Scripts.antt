-- What a script says that was read.
use Rattle.std.specs.Prelude.{◌≡◌, ⊤, ℕ, ◌<◌, ◌≤◌, ◌==◌, List, [], ◌∷◌, map, All, IfSome, vec_len, if◌then◌else◌}
use Rattle.std.specs.List.{range_with_len}
use Rattle.uuid.specs.Text.{hyphenated_text, lower}
use Rattle.group_history.specs.Map.{Bytes}
use Rattle.group_history.specs.Refs.{max_slots, max_seats}
use Rattle.script_parser.specs.declared.script.ClientLine.{ClientLine}
use Rattle.script_parser.specs.declared.script.Command.{Command}
use Rattle.script_parser.specs.declared.script.Command.TheVariants as command
use Rattle.script_parser.specs.declared.script.Line.{Line}
use Rattle.script_parser.specs.declared.script.ClientPart.{ClientPart}
use Rattle.script_parser.specs.declared.script.Phase.{Phase}
use Rattle.script_parser.specs.declared.script.Script.{Script}
use Rattle.script_parser.specs.Context.{Context, Lines}

-- what a client's line has said: its name, and its ID's lower-case hyphenated form
abbrev pub client_said : ClientLine → Bytes × Bytes
client_said client = (client.name, hyphenated_text lower client.id)

-- what a line of a phase has said
abbrev pub line_said : Line → ℕ × Command
line_said line = (line.number, line.command)

-- what the lines of the client at a place have said; of a client without a part there are none
abbrev pub lines_at : List ClientPart → ℕ → Lines
lines_at [] client = []
lines_at (p ∷ ps) client = if p.client == client then map line_said p.lines.items else lines_at ps client

-- what the lines of a phase have said, client by client
abbrev pub phase_said : Phase → List Lines
phase_said phase = map (lines_at phase.parts.items) (range_with_len 0 phase.clients)

-- the script is what was said
pub record IsScript (said : Context) (script : Script) : Type 0 where
  pub group : script.header.group ≡ said.group
  pub profile : script.header.profile ≡ said.profile
  pub schema : script.header.schema ≡ said.schema
  pub slots : script.header.slots ≡ said.slots
  pub clients : map client_said script.header.clients.items ≡ said.clients
  pub phases : map phase_said script.phases.items ≡ said.phases

-- a client that is learnt from is one of so many
abbrev pub LearnsWithin : ℕ → Command → Type 0
LearnsWithin n (command.Learn place) = place < n
LearnsWithin n k = ⊤

-- what holds of a script that was checked
pub record IsChecked (script : Script) : Type 0 where
  -- a phase has the lines of each client
  pub each_client : All (λ phase. phase.clients ≡ vec_len script.header.clients) script.phases.items
  pub seats : vec_len script.header.clients ≤ max_seats
  pub slots : IfSome script.header.slots (λ n. (16 ≤ n) × (n ≤ max_slots))
  pub learnt : All (λ phase. All (λ lines. All
      (λ line. LearnsWithin (vec_len script.header.clients) line.1) lines) (phase_said phase)) script.phases.items
