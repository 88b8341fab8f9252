-- With which clients a run of a script begins, and how it ends.
use Rattle.std.specs.Prelude.{ℕ, zero, suc, ◌≡◌, ◌⊎◌, ◌<◌, ⊤, codes, List, [], length, map, Option}
use Rattle.std.specs.Prelude.{None, Some, unwrap_or}
use Rattle.std.specs.Prelude.{Result, Err, IfErr, IfOk, slice_index_or}
use Rattle.std.specs.Io.KnownBytes.{Appends, Keeps}
use Rattle.group_history.specs.Map.{Bytes}
use Rattle.group_history.specs.Meaning.{Meanings}
use Rattle.head_word.specs.declared.entry.Entry.{Entry}
use Rattle.head_word.specs.Books.{book_opening, opening_ref}
use Rattle.head_word.specs.Marks.{Known, known}
use Rattle.push_body.specs.declared.identities.Identity.{Identity}
use Rattle.commit_graph.specs.Seats.{SeatState}
use Rattle.rebase.specs.Clients.{ClientState, Grouped}
use Rattle.client_desk.specs.declared.outcomes.Outcome.TheVariants.{Done}
use Rattle.client_desk.specs.Answers.{SitsDown}
use Rattle.client_desk.specs.Places.{PlaceState, free_place}
use Rattle.client_desk.specs.Told.{told_alone}
use Rattle.script_parser.specs.declared.faults.Fault.{Fault}
use Rattle.script_parser.specs.declared.faults.Fault.TheVariants as fault
use Rattle.script_parser.specs.declared.script.Header.{Header}
use Rattle.script_runner.specs.Commanding.{Player}
use Rattle.script_parser.specs.Context.{Context}
use Rattle.script_parser.specs.Faults.{script_said}
use Rattle.script_mutators.specs.Mutators.{script_means}
use Rattle.script_runner.specs.Phases.{AreWritten, HasWhole}
use Rattle.script_runner.specs.Records.{IsRecordOf}

-- whose requests a group writes: what the header lines of `group`, `profile` and `schema` say, and else the defaults
abbrev pub identity_of : Option Bytes → Option Bytes → Option Bytes → Identity
identity_of group profile schema = record {
  group = unwrap_or group (codes "00000000-0000-0000-0000-000000000000");
  profile = unwrap_or profile (codes "p1");
  schema = unwrap_or schema (codes "s1");
}

-- the same of a header
abbrev pub header_identity : Header → Identity
header_identity header = identity_of header.group header.profile header.schema

-- a client's ID, where there is one
abbrev pub id_of_client : Option ClientState → Bytes
id_of_client (Some client) = client.id
id_of_client None = []

-- that of the client that sits at a place
abbrev pub id_at : PlaceState → Bytes
id_at place = id_of_client place.client

-- how many seats a group has for so many clients: one where there are none
abbrev pub seats_for : ℕ → ℕ
seats_for zero = 1
seats_for (suc n) = suc n

-- the mark of the seat of this number, of a group that was just opened for so many: it has seen the opening alone
abbrev pub mark_at : Grouped → ℕ → ℕ → ℕ → Known
mark_at group count commit number = known group.group.book (book_opening count (opening_ref commit)) (Some number)

-- A client before the first phase, by its number, of a group for so many, whose mutators mean this: it sat down at a
-- new place, by its ID, on the seat of that number.
pub record IsNewPlayer (means : Meanings) (group : Grouped) (count commit number : ℕ) (p : Player) : Type 0 where
  pub uuid : Bytes
  pub seat : SeatState
  pub mark : seat.mark ≡ mark_at group count commit number
  pub sat : SitsDown uuid means seat (free_place group seat) (told_alone Done) p.place

-- the clients before the first phase: those of the lines, each with its name and ID, in a group of its own
pub record AreNewPlayers (means : Meanings) (identity : Identity) (lines : List (Bytes × Bytes))
    (players : List Player) : Type 0 where
  pub named : map (λ p. (p.name, id_at p.place)) players ≡ lines
  pub group : Grouped
  pub writes : group.identity ≡ identity
  pub commit : ℕ
  pub all : (i : ℕ) (p : Player) → i < length players
      → IsNewPlayer means group (seats_for (length players)) commit i (slice_index_or players i p)

-- A run to the end writes what the phases print that the script says, from its clients on. At its end there is one
-- record of all that they changed.
pub record HasPlayed (said : Context) (old new : Option Bytes) : Type 0 where
  pub opened : List Player
  pub are : AreNewPlayers script_means (identity_of said.group said.profile said.schema) said.clients opened
  pub text : Bytes
  pub closed : List Player
  pub written : AreWritten script_means opened said.phases text closed
  pub appended : Appends old new text
  pub one : 0 < length closed → (book : List Entry) × IsRecordOf script_means closed book

-- A run that memory ended has written what so many whole phases print, none where its clients were not opened.
pub record HasRunSome (said : Context) (old new : Option Bytes) (opened : List Player) : Type 0 where
  pub are : AreNewPlayers script_means (identity_of said.group said.profile said.schema) said.clients opened
  pub written : HasWhole script_means opened said.phases old new

abbrev pub HasStopped : Context → Option Bytes → Option Bytes → Type 0
HasStopped said old new = Keeps old new ⊎ ((opened : List Player) × HasRunSome said old new opened)

-- the fault is one of the script, and not of memory or of the writer
abbrev pub IsOfScript : Fault → Type 0
IsOfScript (fault.Script line text) = ⊤
IsOfScript fault.NoMemory = ⊥
IsOfScript fault.Write = ⊥

-- memory was refused
abbrev pub IsRunWant : {X : Type 0} → Result X Fault → Type 0
IsRunWant (Err fault.NoMemory) = ⊤
IsRunWant other = ⊥

-- it does not say that the script is faulty
abbrev pub BlamesNoScript : {X : Type 0} → Result X Fault → Type 0
BlamesNoScript result = IfErr result (λ e. IsOfScript e → ⊥)

-- where the script is faulty, nothing is written
abbrev pub KeepsIfFaulty : {X : Type 0} → Result X Fault → Option Bytes → Option Bytes → Type 0
KeepsIfFaulty result old new = IfErr result (λ e. IsOfScript e → new ≡ old)

-- a run to the end of the script that the bytes are
abbrev pub HasRunScript : Bytes → Option Bytes → Option Bytes → Type 0
HasRunScript script old new = IfOk (script_said script) (λ said. HasPlayed said old new)

-- and one that memory ended, maybe before it was a script
abbrev pub HasStoppedScript : Bytes → Option Bytes → Option Bytes → Type 0
HasStoppedScript script old new = Keeps old new ⊎ IfOk (script_said script) (λ said. HasStopped said old new)
