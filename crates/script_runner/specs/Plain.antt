-- What the group of one thread replies to a client's command, and what of that a line may be told.
--
-- The state is the group's: the one after all changes so far. The last id, the tickets, the watches and an open reading
-- are the client's own; the reading's state is the one that the line found which began it. The number of the moment is
-- that of what the line has seen, and how many slots are free nothing says. Nothing else is asked: so but for these
-- two a line is answered by a function of what the lines before have done.
use Rattle.std.specs.Prelude.{ℕ, ◌≡◌, ◌⊎◌, ◌+◌, true, List, [], ◌++◌, drop, Option, Some, None, Ok}
use Rattle.std.specs.Prelude.{option_map}
use Rattle.std.specs.FinMap as finite
use Rattle.group_history.specs.declared.changes.Change.{Change}
use Rattle.group_history.specs.declared.mutations.MutationFields.{MutationFields as Mutation}
use Rattle.group_history.specs.declared.refusals.Refusal.{Refusal}
use Rattle.group_history.specs.Map.{Bytes}
use Rattle.group_history.specs.Meaning.{Meanings}
use Rattle.group_history.specs.Mutating.{mutate_reply}
use Rattle.group_history.specs.Queries.{get_at, has_at, is_empty_at, view_rows}
use Rattle.group_history.specs.Record.{after}
use Rattle.group_history.specs.Scans.{rows_of}
use Rattle.group_history.specs.State.{State, last_id, made}
use Rattle.head_word.specs.Books.{with_change}
use Rattle.head_word.specs.Laws.{moment}
use Rattle.head_word.specs.Marks.{Known}
use Rattle.linearized.specs.Answered.{is_resource_refusal}
use Rattle.linearized.specs.Changes.{change_made, change_read}
use Rattle.pull_patch.specs.Grammar.{answer_to}
use Rattle.push_body.specs.Bodies.{push_text}
use Rattle.rebase.specs.declared.tickets.Ticket.{Ticket}
use Rattle.rebase.specs.Asking.{end_bytes_reply}
use Rattle.rebase.specs.Calls.{Caller, caller_of}
use Rattle.rebase.specs.Clients.{ClientState}
use Rattle.rebase.specs.Counting.{SlotCounts}
use Rattle.rebase.specs.Queries.{asked_at}
use Rattle.rebase.specs.Watching.{Watched, poll_at}
use Rattle.rebase.specs.declared.watching.Polled.{Polled}
use Rattle.client_desk.specs.Answers.{TellsChanges, read_by_client}
use Rattle.client_desk.specs.declared.faults.CallFault.{CallFault}
use Rattle.client_desk.specs.declared.faults.CallFault.TheVariants.{NoTicket, NotRead, NoWatch, Reads}
use Rattle.client_desk.specs.declared.outcomes.Outcome.{Outcome}
use Rattle.client_desk.specs.declared.outcomes.Outcome.TheVariants.{Done, Faulty, Number, Refused}
use Rattle.client_desk.specs.Kept.{kept_at}
use Rattle.client_desk.specs.Places.{PlaceState, client_at}
use Rattle.client_desk.specs.Told.{Told, bytes_told, cookie_told, ended_told, id_told, is_told, pending_told}
use Rattle.client_desk.specs.Told.{polled_told, rows_told, slots_told, tells, told, told_alone, value_told}
use Rattle.script_parser.specs.declared.script.Command.{Command}
use Rattle.script_parser.specs.declared.script.Command.TheVariants as command
use Rattle.script_parser.specs.declared.script.Query.{Query}
use Rattle.script_parser.specs.declared.script.Query.TheVariants as query
use Rattle.script_runner.specs.Answering.{moment_seen, record_seen}

-- what an open reading reads: a state, and the number of its moment
pub record Reading : Type 0 where
  pub state : State
  pub number : ℕ

-- what a client reads
abbrev pub client_reading : ClientState → Reading
client_reading reader = record { state = read_by_client reader; number = moment reader.seat.mark.log }

-- what the open reading of a place reads
abbrev pub reading_at : PlaceState → Option Reading
reading_at place = option_map client_reading place.reading

-- what may be told, and the change of the group that it stands for
pub record Plain : Type 1 where
  pub says : Told → Type 0
  pub change : Option Change

-- this is told, and the group is not changed
abbrev pub looked : Told → Plain
looked this = record { says = λ t. t ≡ this; change = None }

-- slots were counted; how many are free the state doesn't say
abbrev pub counted : Plain
counted = record { says = λ t. (counts : SlotCounts) × (t ≡ slots_told counts); change = None }

-- what a poll tells is told by what changed since the last one: one list of changes is right (`changes_laws`)
abbrev pub changed : Watched → Polled → Plain
changed watch polled = record { says = TellsChanges watch (Ok polled); change = None }

-- by what is kept under a number, or the fault where nothing is
abbrev pub if_kept : {X : Type 0} → Option X → CallFault → (X → Plain) → Plain
if_kept (Some x) none plain = plain x
if_kept None none plain = looked (told_alone (Faulty none))

-- In a group whose mutators mean this and whose state this is, to this caller.
module _ (means : Meanings) (s : State) (by : Caller) where
  abbrev pub query_told : Query → Told
  query_told (query.Get key) = value_told (get_at means s key)
  query_told (query.Has key) = is_told (has_at means s key)
  query_told (query.Scan scan) = rows_told (view_rows means s scan)
  query_told query.Empty = is_told (is_empty_at means s)
  query_told query.Closed = is_told s.closed
  query_told query.Pending = pending_told s.pending
  query_told query.Cookie = cookie_told s.cookie
  query_told (query.Push n) = bytes_told (push_text by.identity (drop n s.pending))
  query_told (query.PulledGet key) = value_told (finite.get s.pulled key)
  query_told (query.PulledScan scan) = rows_told (rows_of scan s.pulled)

  -- a mutation: it is told its id, or the refusal
  abbrev pub mutated : Mutation → Plain
  mutated x = record {
    says = λ t. t ≡ tells id_told (mutate_reply means s by.last x);
    change = change_made x (mutate_reply means s by.last x);
  }

  -- the end of the pull of a ticket, with the bytes of a response
  abbrev pub ended : Ticket → Bytes → Plain
  ended kept body = record {
    says = λ t. t ≡ tells ended_told (end_bytes_reply s kept.cookie.text body);
    change = change_read kept.cookie (answer_to body) (end_bytes_reply s kept.cookie.text body);
  }

  -- any command of a client that has no reading open, by the tickets and the watches that are kept, and the number of
  -- the moment
  abbrev pub plain_sitting : List (Option Ticket) → List (Option Watched) → ℕ → Command → Plain
  plain_sitting tickets watches number (command.Query q) = looked (query_told q)
  plain_sitting tickets watches number (command.Begin n) = looked (told (Number n) (asked_at by.identity s).body)
  plain_sitting tickets watches number (command.End n body) =
      if_kept (kept_at tickets n) NoTicket (λ kept. ended kept body)
  plain_sitting tickets watches number (command.Mutate m) =
      mutated (made by.client (by.last + 1) m.mutator m.args m.time)
  plain_sitting tickets watches number command.Refresh = looked (id_told (last_id s by.client))
  plain_sitting tickets watches number command.Moment = looked (id_told number)
  plain_sitting tickets watches number command.Slots = counted
  plain_sitting tickets watches number command.BeginRead = looked (told_alone Done)
  plain_sitting tickets watches number command.EndRead = looked (told_alone (Faulty NotRead))
  plain_sitting tickets watches number (command.Learn other) = looked (told_alone Done)
  plain_sitting tickets watches number (command.Watch n scan) = looked (told_alone (Number n))
  plain_sitting tickets watches number (command.Poll n) = if_kept (kept_at watches n) NoWatch
      (λ watch. looked (polled_told (poll_at means watch s)))
  plain_sitting tickets watches number (command.Changes n) = if_kept (kept_at watches n) NoWatch
      (λ watch. changed watch (poll_at means watch s))
  plain_sitting tickets watches number (command.Unwatch n) =
      if_kept (kept_at watches n) NoWatch (λ watch. looked (told_alone Done))

-- a command of a client that has this open to read: the reading answers queries, and what wants its client isn't done
abbrev pub plain_reading : Meanings → Caller → List (Option Watched) → Reading → Command → Plain
plain_reading means by watches reading (command.Query q) = looked (query_told means reading.state by q)
plain_reading means by watches reading command.Moment = looked (id_told reading.number)
plain_reading means by watches reading command.EndRead = looked (told_alone Done)
plain_reading means by watches reading (command.Unwatch n) = if_kept (kept_at watches n) NoWatch
    (λ watch. looked (told_alone Done))
plain_reading means by watches reading other = looked (told_alone (Faulty Reads))

-- any command
abbrev pub plain : Meanings → State → Caller → List (Option Ticket) → List (Option Watched) → ℕ → Option Reading
    → Command → Plain
plain means s by tickets watches number None c = plain_sitting means s by tickets watches number c
plain means s by tickets watches number (Some reading) c = plain_reading means by watches reading c

-- What the client has open to read behind a command that came to this: what it had, unless a reading began, at this
-- state and the moment of this number, or ended.
abbrev pub reading_behind : State → ℕ → Option Reading → Command → Outcome → Option Reading
reading_behind s number was command.BeginRead Done = Some (record { state = s; number = number })
reading_behind s number was command.EndRead Done = None
reading_behind s number was c other = was

-- a refusal for want of something: of memory, of a slot or of a stamp
abbrev pub IsLack : Told → Type 0
IsLack t = (e : Refusal) × (is_resource_refusal e ≡ true) × (t ≡ told_alone (Refused e))

-- That is told, and the record gains the change; or it is refused for want of something, and the record stays.
abbrev pub IsDone : Plain → Told → List Change → List Change → Type 0
IsDone is t old new = (is.says t × (new ≡ old ++ with_change is.change [])) ⊎ (IsLack t × (new ≡ old))

-- So is the command of the client of a place, where the group's record is this, and once it was done, this was seen;
-- and the place after it has open to read what it should.
pub record IsPlainlyTold (means : Meanings) (c : Command) (place next : PlaceState) (t : Told)
    (old : List Change) (now : Option Known) : Type 0 where
  pub client : ClientState
  pub there : client_at place ≡ Some client
  pub done : IsDone
      (plain means (after old) (caller_of client) place.tickets place.watches (moment_seen now) (reading_at place)
      c) t old
      (record_seen now)
  pub reads : reading_at next ≡ reading_behind (after old) (moment_seen now) (reading_at place) c t.outcome
