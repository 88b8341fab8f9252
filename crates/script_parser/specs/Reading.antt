-- A script that is read line by line: what each line asks, and what is kept of it where the lines themselves are not.
use Rattle.std.specs.Prelude.{◌≡◌, ℕ, ◌<◌, [], ◌∷◌, ◌++◌, length, map, Result, Ok, Err, if◌then◌else◌}
use Rattle.std.specs.Str.{is_utf8}
use Rattle.group_history.specs.Map.{Bytes}
use Rattle.script_parser.specs.declared.faults.LineFault.{LineFault}
use Rattle.script_parser.specs.declared.faults.LineFault.TheVariants as line
use Rattle.script_parser.specs.declared.faults.ScriptFault.{ScriptFault}
use Rattle.script_parser.specs.declared.faults.ScriptFault.TheVariants as text
use Rattle.script_parser.specs.declared.script.LineKind.{LineKind}
use Rattle.script_parser.specs.declared.script.LineKind.TheVariants as asked
use Rattle.script_parser.specs.declared.reader.LineReader.{LineReader}
use Rattle.script_parser.specs.declared.script.Header.{Header}
use Rattle.script_parser.specs.Context.{Context}
use Rattle.script_parser.specs.Kept.{new_phase, without_lines}
use Rattle.script_parser.specs.Commands.{with_line}
use Rattle.script_parser.specs.Faults.{said_with}
use Rattle.script_parser.specs.Scripts.{client_said, line_said}
use Rattle.script_parser.specs.Inside.Parsing.{context_of}

-- what is said with a line of this number too, or the line's fault; the line may be no UTF-8
unfoldable pub bytes_said_with : Context → ℕ → Bytes → Result Context ScriptFault
bytes_said_with c n l = if is_utf8 l then said_with c n l else Err text.NotUtf8

-- what is said where this is asked, and this is said beside it
abbrev pub with_asked : LineKind → Context → Context
with_asked asked.Nothing c = c
with_asked asked.Phase c = record c { phases = c.phases ++ new_phase (length c.clients) ∷ [] }
with_asked (asked.Command client l) c = record c { phases = with_line client (line_said l) c.phases }

-- what a reader has kept of what the lines so far have said
abbrev pub kept_by : LineReader → Context
kept_by reader = context_of reader.parser

-- What a line of this number asks. Nothing: the phases are as they were. A phase: there is one more. A command of the
-- client at a place, where there is a phase: it is the last line of that client in the last one.
abbrev pub LineAsks : ℕ → Context → LineKind → Context → Type 0
LineAsks n c asked.Nothing said = said.phases ≡ c.phases
LineAsks n c asked.Phase said = said.phases ≡ c.phases ++ new_phase (length c.clients) ∷ []
LineAsks n c (asked.Command client l) said =
    (0 < length c.phases) × (client < length c.clients) × (l.number ≡ n)
    × (said.phases ≡ with_line client (line_said l) c.phases)

-- A line of this number is taken, of which this is right. One that isn't faulty: what it asks, and what is said with it
-- is kept without lines. A faulty one: its fault, and nothing more is kept; where memory is refused, nothing is either.
abbrev pub TakesAs : Result Context ScriptFault → ℕ → Context → Result LineKind LineFault → Context → Type 0
TakesAs right n c (Ok asked) kept =
    (said : Context) × (right ≡ Ok said) × LineAsks n c asked said × (kept ≡ without_lines said)
TakesAs right n c (Err (line.Script f)) kept = (right ≡ Err f) × (kept ≡ c)
TakesAs right n c (Err line.NoMemory) kept = kept ≡ c

-- these bytes are taken as a line of this number
abbrev pub TakesLine : ℕ → Bytes → Context → Result LineKind LineFault → Context → Type 0
TakesLine n l c taken kept = TakesAs (bytes_said_with c n l) n c taken kept

-- the header is what was said
pub record IsHeader (said : Context) (header : Header) : Type 0 where
  pub group : header.group ≡ said.group
  pub profile : header.profile ≡ said.profile
  pub schema : header.schema ≡ said.schema
  pub slots : header.slots ≡ said.slots
  pub clients : map client_said header.clients.items ≡ said.clients
