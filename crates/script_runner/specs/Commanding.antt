-- What a command may come to and print, and how it leaves its client.
use Rattle.std.specs.Prelude.{ℕ, ◌≡◌, ⊤, List, Option, Some, None}
use Rattle.group_history.specs.Map.{Bytes}
use Rattle.group_history.specs.Meaning.{Meanings}
use Rattle.head_word.specs.Marks.{Known}
use Rattle.script_parser.specs.declared.script.MutatorCall.{MutatorCall}
use Rattle.script_parser.specs.declared.script.Command.{Command}
use Rattle.script_parser.specs.declared.script.Command.TheVariants as command
use Rattle.script_parser.specs.declared.script.Query.{Query}
use Rattle.script_parser.specs.declared.script.Query.TheVariants as query
use Rattle.client_desk.specs.declared.calls.DeskCall.{DeskCall}
use Rattle.client_desk.specs.declared.calls.DeskCall.TheVariants as call
use Rattle.client_desk.specs.declared.calls.Keep.TheVariants.{At}
use Rattle.client_desk.specs.declared.faults.CallFault.TheVariants.{Reads}
use Rattle.client_desk.specs.declared.outcomes.Outcome.{Outcome}
use Rattle.client_desk.specs.declared.outcomes.Outcome.TheVariants.{Done, Faulty}
use Rattle.client_desk.specs.Kept.{kept_at}
use Rattle.client_desk.specs.Learning.{LearnsAt}
use Rattle.client_desk.specs.Places.{PlaceState}
use Rattle.client_desk.specs.Told.{Told, told_alone}
use Rattle.client_desk.specs.Waiting.{MayAnswerWaiting}
use Rattle.rebase.specs.Clients.{ClientState}
use Rattle.rebase.specs.declared.calls.Mutate.{Mutate}
use Rattle.script_runner.specs.Printing.{told_text}

-- a client of a script: its name, and the place at which it sits
pub record Player : Type 0 where
  pub name : Bytes
  pub place : PlaceState

-- the call that a query is
abbrev pub AsksQuery : Query → DeskCall → Type 0
AsksQuery (query.Get key) (call.Get k) = k.now ≡ key
AsksQuery (query.Has key) (call.Has k) = k.now ≡ key
AsksQuery (query.Scan scan) (call.Scan s) = s.now ≡ scan
AsksQuery query.Empty call.Empty = ⊤
AsksQuery query.Closed call.Closed = ⊤
AsksQuery query.Pending call.Pending = ⊤
AsksQuery query.Cookie call.Cookie = ⊤
AsksQuery (query.Push n) (call.Push skip) = skip ≡ n
AsksQuery (query.PulledGet key) (call.PulledGet k) = k.now ≡ key
AsksQuery (query.PulledScan scan) (call.PulledScan s) = s.now ≡ scan
AsksQuery q other = ⊥

-- the mutation that a command asks for
pub record AsksMutation (m : MutatorCall) (n : Mutate) : Type 0 where
  pub name : n.name.now ≡ m.mutator
  pub args : n.args.now ≡ m.args
  pub time : n.time ≡ m.time

-- the call that a command is
abbrev pub AsksDesk : Command → DeskCall → Type 0
AsksDesk (command.Query q) made = AsksQuery q made
AsksDesk (command.Begin n) (call.Begin keep) = keep ≡ At n
AsksDesk (command.End n body) (call.End m bytes) = (m ≡ n) × (bytes.now ≡ body)
AsksDesk (command.Mutate m) (call.Mutate n) = AsksMutation m n
AsksDesk command.Refresh call.Refresh = ⊤
AsksDesk command.Moment call.Moment = ⊤
AsksDesk command.Slots call.Slots = ⊤
AsksDesk command.BeginRead call.BeginRead = ⊤
AsksDesk command.EndRead call.EndRead = ⊤
AsksDesk (command.Watch n scan) (call.Watch keep s) = (keep ≡ At n) × (s.now ≡ scan)
AsksDesk (command.Poll n) (call.Poll m) = m ≡ n
AsksDesk (command.Changes n) (call.PollChanges m) = m ≡ n
AsksDesk (command.Unwatch n) (call.Unwatch m) = m ≡ n
AsksDesk c other = ⊥

-- the client learns this, where anything was seen
abbrev pub LearnsFirst : Option Known → PlaceState → PlaceState → Type 0
LearnsFirst (Some seen) before after = LearnsAt before.client seen before after
LearnsFirst None before after = after ≡ before

-- what it comes to that a client is to learn: one that has a reading open learns nothing, which is told
abbrev pub learnt_by : Option ClientState → Outcome
learnt_by None = Done
learnt_by (Some reader) = Faulty Reads

-- it learns what the one at a place had seen
pub record MayLearn (sights : List (Option Known)) (place : ℕ) (before : PlaceState) (t : Told)
    (after : PlaceState) : Type 0 where
  pub learnt : LearnsFirst (kept_at sights place) before after
  pub told : t ≡ told_alone (learnt_by before.reading)

-- In a group whose mutators mean this.
module _ (means : Meanings) where
  -- the call is made that the command is; a change waits for others
  pub record MakesCall (c : Command) (before : PlaceState) (t : Told) (after : PlaceState) : Type 0 where
    pub made : DeskCall
    pub asked : AsksDesk c made
    pub may : MayAnswerWaiting means made before t after

  -- What a command may come to and tell, and how it leaves its client's place. `sights` are what each client had seen
  -- when the phase began.
  abbrev pub MayTell : List (Option Known) → Command → PlaceState → Told → PlaceState → Type 0
  MayTell sights (command.Learn place) before t after = MayLearn sights place before t after
  MayTell sights c before t after = MakesCall c before t after

  -- and what it may print
  pub record MayPrint (sights : List (Option Known)) (before : Player) (c : Command) (text : Bytes)
      (after : Player) : Type 0 where
    pub t : Told
    pub may : MayTell sights c before.place t after.place
    pub printed : text ≡ told_text c t
