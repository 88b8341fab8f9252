-- What each call may tell at a place whose change asks for a run, and how it leaves the place.
--
-- The host reads and writes the run's map, and says how the run ended; then the change goes on: the next run is asked
-- for, or the change ends, and tells what it tells where the group has all mutators. All else is refused there, but
-- that the client may leave, which gives the change up.
use Rattle.std.specs.Prelude.{ℕ, ◌≡◌, ◌⊎◌, ◌+◌, ◌<◌, Bool, List, length, take, Result, IfErr, IfOk, ⊤}
use Rattle.std.specs.FinMap as finite
use Rattle.group_history.specs.declared.refusals.Refusal.{Refusal}
use Rattle.group_history.specs.declared.changes.Change.{Change}
use Rattle.group_history.specs.declared.changes.Change.TheVariants.{Mutated}
use Rattle.group_history.specs.declared.mutators.Ran.{Ran}
use Rattle.group_history.specs.Map.{Bytes, Entries}
use Rattle.group_history.specs.Meaning.{Meanings}
use Rattle.group_history.specs.Scans.{rows_of}
use Rattle.group_history.specs.State.{made}
use Rattle.commit_graph.specs.Seats.{SeatState}
use Rattle.change_tries.specs.Missing.{IsStoreOrMemory}
use Rattle.pull_patch.specs.declared.writes.Write.{Write}
use Rattle.pull_patch.specs.Writes.{written}
use Rattle.rebase.specs.Clients.{ClientState}
use Rattle.rebase.specs.Replies.{Replied}
use Rattle.rebase.specs.Running.{EndsCall, EndsPull, UnderWay}
use Rattle.rebase.specs.declared.tickets.Ticket.{Ticket}
use Rattle.client_desk.specs.declared.calls.DeskCall.{DeskCall}
use Rattle.client_desk.specs.declared.calls.DeskCall.TheVariants as call
use Rattle.client_desk.specs.declared.faults.CallFault.TheVariants as fault
use Rattle.client_desk.specs.declared.outcomes.Outcome.TheVariants as outcome
use Rattle.client_desk.specs.Answers.{At, HasLeft, Rule, TellsOutcome, tries}
use Rattle.client_desk.specs.Places.{PlaceState, back_at, free_place, with_asking}
use Rattle.client_desk.specs.Runs.{AsksAtEnd, AsksForRun, AsksNextRun, EndsRuns, GaveUp, IsRunTold}
use Rattle.client_desk.specs.Told.{Told, bytes_told, is_told, named_told, replied_told, rows_told, run_told, tells}
use Rattle.client_desk.specs.Told.{told_alone, value_told}

-- ---- changes that may ask for a run

-- A run is asked for: the place has it, and what the client keeps stays.
pub record AsksRun (is : UnderWay → Type 0) (before : PlaceState) (t : Told) (after : PlaceState) : Type 0 where
  pub asking : UnderWay
  pub asked : is asking
  pub told : t ≡ told_alone outcome.Asked
  pub left : after ≡ with_asking asking before

-- The change ended, and what it came to is told.
pub record RepliesAsked (ends : ClientState → Result Replied Refusal → Type 0) (before : PlaceState) (t : Told)
    (after : PlaceState) : Type 0 where
  pub client : ClientState
  pub reply : Result Replied Refusal
  pub ended : ends client reply
  pub told : t ≡ tells replied_told reply
  pub left : after ≡ back_at client before

-- the mutation that a client makes next
abbrev pub mutation_of : ClientState → Bytes → Bytes → ℕ → Change
mutation_of client name args time = Mutated (made client.id (client.last + 1) name args time)

-- A mutation is made: where the group hasn't its mutator, the run is asked for; or the call ends, and its id is told.
abbrev pub AsksToMutate : (Bytes → Bool) → Meanings → ClientState → Bytes → Bytes → ℕ → Rule
AsksToMutate has means client name args time before t after =
    AsksRun (AsksForRun has means client (mutation_of client name args time)) before t after
    ⊎ RepliesAsked (λ next reply. EndsCall means ⊤ tries client next (mutation_of client name args time) reply)
    before t after

-- A pull is ended with the bytes of a response, and its ticket stays: of what stays pending the first run is asked for
-- whose mutator the group hasn't; or the call ends, as where it has all.
abbrev pub AsksToEnd : (Bytes → Bool) → Meanings → ClientState → Ticket → Bytes → Rule
AsksToEnd has means client kept body before t after =
    AsksRun (AsksAtEnd has means client kept.cookie body) before t after
    ⊎ RepliesAsked (λ next reply. EndsPull means ⊤ tries client next kept.cookie body reply) before t after

-- the run that is asked for there
abbrev pub ByRun : (UnderWay → Rule) → Rule
ByRun rule before = At before.asking fault.NotAsked rule before

-- ---- the run, and its map

-- this is told, and the place is as it was
abbrev pub TellsThis : Told → Rule
TellsThis this before t after = (t ≡ this) × (after ≡ before)

-- The run's map is read, and the reply is right of it; it is told.
pub record ReadsMap {X : Type 0} (tell : X → Told) (right : Entries → X) (asking : UnderWay) (t : Told) : Type 0 where
  pub reply : Result X Refusal
  pub answer : IfOk reply (λ x. x ≡ right asking.map)
  pub refused : IfErr reply (IsStoreOrMemory ⊤)
  pub told : t ≡ tells tell reply

abbrev pub ReadsDraft : {X : Type 0} → (X → Told) → (Entries → X) → UnderWay → Rule
ReadsDraft tell right asking before t after = ReadsMap tell right asking t × (after ≡ before)

-- The run's map is changed so, and nothing else of the change; or that is refused, and the map is as it was.
abbrev pub WritesMap : (Entries → Entries) → UnderWay → Told → UnderWay → Type 0
WritesMap change asking t next = ((t ≡ told_alone outcome.Done) × (next ≡ record asking { map = change asking.map }))
    ⊎ ((e : Refusal) × IsStoreOrMemory ⊤ e × (t ≡ told_alone (outcome.Refused e)) × (next ≡ asking))

-- Writes are done on it, the first one first, and nothing else of the change differs; or one is refused, and those
-- before it are done.
abbrev pub WritesAll : List Write → UnderWay → Told → UnderWay → Type 0
WritesAll ws asking t next =
    ((t ≡ told_alone outcome.Done) × (next ≡ record asking { map = written ws asking.map }))
    ⊎ ((n : ℕ) × (n < length ws) × (e : Refusal) × IsStoreOrMemory ⊤ e × (t ≡ told_alone (outcome.Refused e))
    × (next ≡ record asking { map = written (take n ws) asking.map }))

-- nothing else of the place differs
abbrev pub WritesDraft : (UnderWay → Told → UnderWay → Type 0) → UnderWay → Rule
WritesDraft writes asking before t after = (next : UnderWay) × writes asking t next
    × (after ≡ with_asking next before)

-- ---- the end of a run

-- The next run is asked for, or the change ended.
abbrev pub GoesOnRun : (Bytes → Bool) → Meanings → Ran → UnderWay → Rule
GoesOnRun has means ran asking before t after = AsksRun (AsksNextRun has means asking ran) before t after
    ⊎ RepliesAsked (EndsRuns means asking) before t after

-- The change is given up, and its client sits there.
pub record GivesUpRun (means : Meanings) (asking : UnderWay) (before : PlaceState) (t : Told)
    (after : PlaceState) : Type 0 where
  pub client : ClientState
  pub gave : GaveUp means asking client
  pub told : t ≡ told_alone outcome.Done
  pub left : after ≡ back_at client before

-- It was given up, its client left, and this is the client's seat.
pub record HasLeftAsked (means : Meanings) (asking : UnderWay) (seat : SeatState) : Type 0 where
  pub client : ClientState
  pub gave : GaveUp means asking client
  pub gone : HasLeft client seat

-- It is given up, and its client leaves; the client's tickets and watches are given up.
pub record LeavesAsked (means : Meanings) (asking : UnderWay) (before : PlaceState) (t : Told)
    (after : PlaceState) : Type 0 where
  pub seat : SeatState
  pub gone : HasLeftAsked means asking seat
  pub told : t ≡ told_alone outcome.Done
  pub left : after ≡ free_place before.group seat

-- what has to hold of a call: where it tells that a run has ended, the run is one of the group's meaning
abbrev pub HasRunAsMeant : (Bytes → Bool) → Meanings → PlaceState → DeskCall → Type 0
HasRunAsMeant has means place (call.Ran ran) = IsRunTold has means place.asking ran
HasRunAsMeant has means place other = ⊤

-- ---- any call, where a run is asked for

-- what is asked, and its map
abbrev pub AnswersDraft : DeskCall → Rule
AnswersDraft call.AskedName = ByRun (λ a. TellsThis (named_told a.mutation))
AnswersDraft call.AskedArgs = ByRun (λ a. TellsThis (bytes_told a.mutation.args))
AnswersDraft call.AskedRun = ByRun (λ a. TellsThis (run_told a.mutation))
AnswersDraft (call.DraftGet key) = ByRun (ReadsDraft value_told (λ m. finite.get m key.now))
AnswersDraft (call.DraftHas key) = ByRun (ReadsDraft is_told (λ m. finite.contains_key m key.now))
AnswersDraft (call.DraftScan scan) = ByRun (ReadsDraft rows_told (rows_of scan.now))
AnswersDraft (call.DraftPut key value) = ByRun (WritesDraft (WritesMap (λ m. finite.insert m key.now value.now)))
AnswersDraft (call.DraftDel key) = ByRun (WritesDraft (WritesMap (λ m. finite.remove m key.now)))
AnswersDraft (call.DraftWrites ws) = ByRun (WritesDraft (WritesAll ws.now))
AnswersDraft other = TellsOutcome (outcome.Faulty fault.Asks)

-- and how it ends
abbrev pub AnswersAsked : (Bytes → Bool) → Meanings → DeskCall → Rule
AnswersAsked has means call.Leave = ByRun (LeavesAsked means)
AnswersAsked has means (call.Ran ran) = ByRun (GoesOnRun has means ran)
AnswersAsked has means call.GiveUp = ByRun (GivesUpRun means)
AnswersAsked has means other = AnswersDraft other
