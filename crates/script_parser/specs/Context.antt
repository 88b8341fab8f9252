-- What the lines of a script have said so far, and what a line needs.
use Rattle.std.specs.Prelude.{ℕ, Bool, List, [], ◌∷◌, Option, None, Result, Ok, Err, if◌then◌else◌, position}
use Rattle.group_history.specs.Map.{Bytes, same_text}
use Rattle.script_parser.specs.declared.faults.ScriptFault.{ScriptFault}
use Rattle.script_parser.specs.declared.script.Command.{Command}

-- the lines of a client in a phase, in their order: the number of each in the script, and its command
abbrev pub Lines : Type 0
Lines = List (ℕ × Command)

-- what the lines so far have said
pub record Context : Type 0 where
  -- what such a header line said, where there was one; the group's ID in its lower-case hyphenated form
  pub group : Option Bytes
  pub profile : Option Bytes
  pub schema : Option Bytes
  pub slots : Option ℕ
  -- the clients, in the order of their lines: the name, and the ID in that same form
  pub clients : List (Bytes × Bytes)
  -- the phases, oldest first; in each the lines of each client, in the order of the client lines
  pub phases : List (List Lines)
  -- the names of the tickets that the lines of each client made, in the order of the client lines; each once, oldest
  -- first
  pub tickets : List (List Bytes)
  -- and of the watches
  pub watches : List (List Bytes)

-- before the first line
abbrev pub nothing_said : Context
nothing_said = record {
  group = None;
  profile = None;
  schema = None;
  slots = None;
  clients = [];
  phases = [];
  tickets = [];
  watches = [];
}

-- the place of a client, by its name
unfoldable pub place_of : Bytes → List (Bytes × Bytes) → Option ℕ
place_of name clients = position (λ client. same_text client.0 name) clients

-- the fault of the first need that isn't met, and else what is said
abbrev pub meets : {X : Type 0} → List (Bool × ScriptFault) → X → Result X ScriptFault
meets [] said = Ok said
meets ((holds, fault) ∷ needs) said = if holds then meets needs said else Err fault
