-- What each call that is no change may tell where no run is asked for, and how it leaves the place.
--
-- A client's own call is made, as `rebase` says it, and its reply is told. Where nobody sits there, or a number names
-- nothing, that is told, and the place is as it was.
use Rattle.std.specs.Prelude.{ℕ, ◌≡◌, ◌⊎◌, ⊤, List, [], drop, Option, Some, None, Result, Ok, Err}
use Rattle.std.specs.Prelude.{IfErr, IfOk, slice_set, unwrap_or}
use Rattle.std.specs.FinMap as finite
use Rattle.group_history.specs.declared.refusals.Refusal.{Refusal}
use Rattle.group_history.specs.declared.scans.Scan.{Scan}
use Rattle.group_history.specs.Map.{Bytes}
use Rattle.group_history.specs.Meaning.{Meanings}
use Rattle.group_history.specs.Queries.{get_at, has_at, is_empty_at, view_rows}
use Rattle.group_history.specs.Record.{after}
use Rattle.group_history.specs.Scans.{rows_of}
use Rattle.group_history.specs.State.{State, last_id}
use Rattle.head_word.specs.Books.{record_of}
use Rattle.head_word.specs.Laws.{moment}
use Rattle.push_body.specs.Bodies.{push_text}
use Rattle.rebase.specs.Counting.{Counts, Found, SlotCounts}
use Rattle.linearized.specs.Answered.{IsAnswered, IsLeft, IsLinearized, IsPoint, no_change}
use Rattle.chunk_slots.specs.Seats.{IsIdle}
use Rattle.commit_graph.specs.Seats.{HasLooked, SeatState}
use Rattle.change_tries.specs.Missing.{IsStoreOrMemory, IsStoreRefusal}
use Rattle.rebase.specs.Clients.{ClientState, IsSameClient, AfterLook, HoldsNothing, AfterQuery}
use Rattle.rebase.specs.Clients.{AfterRead as Holds}
use Rattle.rebase.specs.Queries.{asked_at, AskedQuery as Begun}
use Rattle.rebase.specs.Watching.{Watched, poll_at, watch_after}
use Rattle.rebase.specs.declared.tickets.Ticket.{Ticket}
use Rattle.rebase.specs.declared.watching.Polled.{Polled}
use Rattle.rebase.specs.declared.watching.Polled.TheVariants as polled
use Rattle.row_changes.specs.declared.changes.RowChange.{RowChange}
use Rattle.row_changes.specs.Changes.{AreChanges}
use Rattle.uuid.specs.Text.{hyphenated_text, lower}
use Rattle.client_desk.specs.declared.calls.DeskCall.{DeskCall}
use Rattle.client_desk.specs.declared.calls.DeskCall.TheVariants as call
use Rattle.client_desk.specs.declared.faults.CallFault.{CallFault}
use Rattle.client_desk.specs.declared.outcomes.Outcome.{Outcome}
use Rattle.client_desk.specs.declared.outcomes.Outcome.TheVariants.{Done, Faulty, Nothing, Number, Refused}
use Rattle.client_desk.specs.declared.faults.CallFault.TheVariants as fault
use Rattle.client_desk.specs.declared.calls.Keep.{Keep}
use Rattle.client_desk.specs.Kept.{IsKeptAt, IsNumberFor, kept_at, room_for, given_up_at}
use Rattle.client_desk.specs.Places.{PlaceState, client_at, free_place, read_through, sat, unsat, with_client}
use Rattle.client_desk.specs.Places.{with_moment, with_reading, with_tickets, with_watches}
use Rattle.client_desk.specs.Told.{Told, bytes_told, changes_told, cookie_told, dry, id_told, is_told, pending_told}
use Rattle.client_desk.specs.Told.{polled_told, rows_told, slots_told, tells, told, told_alone, value_told}

-- how often a call begins anew that others are in the way of
abbrev pub tries : ℕ
tries = 1000000

-- how a call may be answered: from a place as it was, what is told, and the place after it
abbrev pub Rule : Type 1
Rule = PlaceState → Told → PlaceState → Type 0

-- ---- where nothing is done

-- this is told, and the place is as it was
abbrev pub TellsOutcome : Outcome → Rule
TellsOutcome outcome before t after = (t ≡ told_alone outcome) × (after ≡ before)

-- what is there, or what is told where it isn't
abbrev pub At : {X : Type 0} → Option X → CallFault → (X → Rule) → Rule
At (Some x) none rule = rule x
At None none rule = TellsOutcome (Faulty none)

-- why no client can be called: it has a reading open, or there is none
abbrev pub absent : Option ClientState → CallFault
absent (Some reader) = fault.Reads
absent None = fault.NoClient

-- the client that sits there
abbrev pub ByClient : (ClientState → Rule) → Rule
ByClient rule before = At before.client (absent before.reading) rule before

-- the client that has a reading open
abbrev pub ByReader : (ClientState → Rule) → Rule
ByReader rule before = At before.reading fault.NotRead rule before

-- the client of the place, also where it has a reading open
abbrev pub ByAny : (ClientState → Rule) → Rule
ByAny rule before = At (client_at before) fault.NoClient rule before

-- a client looked, and did nothing else
pub record HasOnlyLooked (before after : PlaceState) : Type 0 where
  pub old : ClientState
  pub new : ClientState
  pub sits : before.client ≡ Some old
  pub stays : AfterQuery ⊤ old new
  pub left : after ≡ with_client new before

-- Memory was refused: nothing was changed, and the client knows no less.
pub record AnswersLack (before : PlaceState) (t : Told) (after : PlaceState) : Type 0 where
  pub told : t ≡ dry
  pub left : (after ≡ before) ⊎ HasOnlyLooked before after

-- ---- sitting down and leaving

-- a client of this ID sits down on the seat
pub record SitsDown (uuid : Bytes) (means : Meanings) (seat : SeatState) (before : PlaceState) (t : Told)
    (after : PlaceState) : Type 0 where
  pub client : ClientState
  pub group : client.group ≡ before.group
  pub id : client.id ≡ hyphenated_text lower uuid
  pub answer : IsAnswered means seat.mark client.seat.mark None (λ s. last_id s client.id ≡ client.last)
  pub looked : HasLooked ⊤ seat client.seat
  pub rests : HoldsNothing ⊤ client
  pub told : t ≡ told_alone Done
  pub left : after ≡ sat client before

-- it is refused, and the seat is free
pub record IsTurnedAway (seat : SeatState) (before : PlaceState) (t : Told) (after : PlaceState) : Type 0 where
  pub back : SeatState
  pub looked : HasLooked ⊤ seat back
  pub refusal : Refusal
  pub missed : IsStoreOrMemory ⊤ refusal
  pub alone : IsLeft tries seat.mark back.mark refusal
  pub told : t ≡ told_alone (Refused refusal)
  pub left : after ≡ unsat back before

abbrev pub AnswersSit : Meanings → Bytes → Rule
AnswersSit means uuid before =
    At before.seat fault.InUse (λ seat b t a. SitsDown uuid means seat b t a ⊎ IsTurnedAway seat b t a)
    before

-- The client left, and this is its seat: nothing else was seen or done there, and it has no pin and no taken slot, also
-- where it had a reading open.
pub record HasLeft (client : ClientState) (seat : SeatState) : Type 0 where
  pub looked : HasLooked ⊤ client.seat seat
  pub mark : seat.mark ≡ client.seat.mark
  pub rests : IsIdle seat.view

-- the client leaves; its tickets and watches are given up
pub record Leaves (client : ClientState) (before : PlaceState) (t : Told) (after : PlaceState) : Type 0 where
  pub seat : SeatState
  pub gone : HasLeft client seat
  pub told : t ≡ told_alone Done
  pub left : after ≡ free_place before.group seat

-- ---- calls that change nothing in the group

-- the state up to which a client knows the record: behind a query, and in an open reading, the one that was read
abbrev pub read_by_client : ClientState → State
read_by_client client = after (record_of client.seat.mark.log)

-- The client reads, and the reply is right at a point of the group's record, up to which it knows the record then; it
-- is told.
pub record ReadsBy {X : Type 0} (tell : X → Told) (right : State → X) (means : Meanings) (client : ClientState)
    (t : Told) (next : ClientState) : Type 0 where
  pub reply : Result X Refusal
  pub answer : IsLinearized means tries client.seat.mark next.seat.mark reply no_change (λ s. Ok (right s))
  pub at : IfOk reply (λ x. x ≡ right (read_by_client next))
  pub refused : IfErr reply (IsStoreOrMemory ⊤)
  pub stays : AfterQuery ⊤ client next
  pub told : t ≡ tells tell reply

-- the moment of a place's last query then: of one that is answered, where it was read; a refused one leaves it
abbrev pub moment_by : {X : Type 0} → Result X Refusal → ClientState → ℕ → ℕ
moment_by (Ok x) reader n = moment reader.seat.mark.log
moment_by (Err e) reader n = n

-- nothing else of the place changes
abbrev pub AnswersRead : {X : Type 0} → (X → Told) → (State → X) → Meanings → ClientState → Rule
AnswersRead tell right means client before t after =
    (next : ClientState) × (read : ReadsBy tell right means client t next)
    × (after ≡ with_moment (moment_by read.reply next before.moment) (with_client next before))

-- the reply of an open reading is right at its moment
pub record ReadsKept {X : Type 0} (tell : X → Told) (right : State → X) (reader : ClientState) (t : Told) : Type 0 where
  pub reply : Result X Refusal
  pub answer : IfOk reply (λ x. x ≡ right (read_by_client reader))
  pub refused : IfErr reply (IsStoreOrMemory ⊤)
  pub told : t ≡ tells tell reply

-- A query: by the reading that is open, which changes nothing but the last moment; or by the client.
abbrev pub AsksAs : {X : Type 0} → (X → Told) → (ClientState → State → X) → Meanings → Option ClientState → Rule
AsksAs tell right means (Some reader) before t after =
    (read : ReadsKept tell (right reader) reader t)
    × (after ≡ with_moment (moment_by read.reply reader before.moment) before)
AsksAs tell right means None before t after = ByClient (λ c. AnswersRead tell (right c) means c) before t after

abbrev pub AnswersQuery : {X : Type 0} → (X → Told) → (ClientState → State → X) → Meanings → Rule
AnswersQuery tell right means before = AsksAs tell right means before.reading before

-- The client looks where the head is, and does nothing else. The number of that moment is told.
pub record TellsMoment (means : Meanings) (client : ClientState) (before : PlaceState) (t : Told)
    (after : PlaceState) : Type 0
  where
    pub next : ClientState
    pub point : IsPoint means client.seat.mark next.seat.mark None next.seat.mark.log
    pub looked : HasLooked ⊤ client.seat next.seat
    pub view : next.seat.view ≡ client.seat.view
    pub same : IsSameClient client next × (next.last ≡ client.last)
    pub told : t ≡ id_told (moment next.seat.mark.log)
    pub left : after ≡ with_client next before

-- or that of the reading that is open
abbrev pub TellsMomentAs : Meanings → Option ClientState → Rule
TellsMomentAs means (Some reader) before t after = (t ≡ id_told (moment reader.seat.mark.log)) × (after ≡ before)
TellsMomentAs means None before t after = ByClient (TellsMoment means) before t after

-- A reading begins: its moment is a point of the call, and its pin is held.
pub record BeginsReading (means : Meanings) (client : ClientState) (before : PlaceState) (t : Told)
    (after : PlaceState) : Type 0
  where
    pub reader : ClientState
    pub point : IsPoint means client.seat.mark reader.seat.mark None reader.seat.mark.log
    pub reads : Holds ⊤ tries client reader
    pub told : t ≡ told_alone Done
    pub left : after ≡ with_reading reader before

-- or that is refused
pub record LosesReading (client : ClientState) (before : PlaceState) (t : Told) (after : PlaceState) : Type 0 where
  pub next : ClientState
  pub refusal : Refusal
  pub missed : IsStoreRefusal ⊤ refusal
  pub stays : AfterQuery ⊤ client next
  pub told : t ≡ told_alone (Refused refusal)
  pub left : after ≡ with_client next before

abbrev pub MayBeginReading : Meanings → ClientState → Rule
MayBeginReading means client before t after =
    BeginsReading means client before t after ⊎ LosesReading client before t after

-- The reading ends: its pin is taken away, and its client sits there and knows what it knew.
pub record EndsReading (reader : ClientState) (before : PlaceState) (t : Told) (after : PlaceState) : Type 0 where
  pub client : ClientState
  pub stays : AfterQuery ⊤ reader client
  pub mark : client.seat.mark ≡ reader.seat.mark
  pub told : t ≡ told_alone Done
  pub left : after ≡ read_through client before

-- The client looks for its last id, which is told, and is its own then.
pub record Refreshes (means : Meanings) (client : ClientState) (before : PlaceState) (t : Told)
    (after : PlaceState) : Type 0
  where
    pub reply : Result ℕ Refusal
    pub next : ClientState
    pub answer : IsLinearized means tries client.seat.mark next.seat.mark reply no_change
        (λ s. Ok (last_id s client.id))
    pub id : IfOk reply (λ n. next.last ≡ n)
    pub last : IfErr reply (λ _. next.last ≡ client.last)
    pub refused : IfErr reply (IsStoreRefusal ⊤)
    pub looks : AfterLook ⊤ client next
    pub told : t ≡ tells id_told reply
    pub left : after ≡ with_client next before

-- The client looks at each slot of the group once, each as it was at some time of the call, and keeps its pin. How many
-- it found free is told, or memory was refused for that.
pub record CountsBy (client : ClientState) (t : Told) (next : ClientState) : Type 0 where
  pub counts : SlotCounts
  pub counted : Counts (Found client.seat.view next.seat.view) client.group.group.table.sizes counts
  pub looked : HasLooked ⊤ client.seat next.seat
  pub pin : next.seat.view.pin ≡ client.seat.view.pin
  pub same : IsSameClient client next × (next.last ≡ client.last)
  pub told : (t ≡ slots_told counts) ⊎ (t ≡ dry)

-- nothing else of the place changes
abbrev pub CountsFree : ClientState → Rule
CountsFree client before t after =
    (next : ClientState) × CountsBy client t next × (after ≡ with_client next before)

-- A pull is begun: its request is told, and the number under which its ticket is kept.
pub record KeepsBegun (keep : Keep) (asked : Begun) (next : ClientState) (before : PlaceState) (t : Told)
    (after : PlaceState) : Type 0 where
  pub number : ℕ
  pub kept : Ticket
  pub tickets : List (Option Ticket)
  pub cookie : kept.cookie ≡ asked.cookie
  pub where_ : IsNumberFor keep number before.tickets
  pub there : IsKeptAt number kept before.tickets tickets
  pub told : t ≡ told (Number number) asked.body
  pub left : after ≡ with_tickets next tickets before

abbrev pub IsBegun : Keep → Result Begun Refusal → ClientState → Rule
IsBegun keep (Ok asked) next before t after = KeepsBegun keep asked next before t after
IsBegun keep (Err e) next before t after = (t ≡ told_alone (Refused e)) × (after ≡ with_client next before)

pub record BeginsPull (keep : Keep) (means : Meanings) (client : ClientState) (before : PlaceState) (t : Told)
    (after : PlaceState) : Type 0
  where
    pub reply : Result Begun Refusal
    pub next : ClientState
    pub answer : IsLinearized means tries client.seat.mark next.seat.mark reply no_change
        (λ s. Ok (asked_at client.group.identity s))
    pub refused : IfErr reply (IsStoreOrMemory ⊤)
    pub stays : AfterQuery ⊤ client next
    pub begun : IsBegun keep reply next before t after

-- the ticket of a number is given up
abbrev pub Forgets : ℕ → Ticket → Rule
Forgets n kept before t after = (t ≡ told_alone Done)
    × (after ≡ record before { tickets = given_up_at before.tickets n })

-- a watch of a scan is kept, which has answered nothing yet; the number under which it is kept is told
pub record Watches (keep : Keep) (scan : Scan) (client : ClientState) (before : PlaceState) (t : Told)
    (after : PlaceState) : Type 0 where
  pub number : ℕ
  pub watches : List (Option Watched)
  pub where_ : IsNumberFor keep number before.watches
  pub there : IsKeptAt number (record { book = client.seat.mark.book; scan = scan; last = None }) before.watches watches
  pub told : t ≡ told_alone (Number number)
  pub left : after ≡ record before { watches = watches }

-- the watch of a number is given up
abbrev pub Unwatches : ℕ → Watched → Rule
Unwatches n kept before t after = (t ≡ told_alone Done)
    × (after ≡ record before { watches = given_up_at before.watches n })

-- how a poll's reply is told, of the watch as it was
abbrev pub Telling : Type 1
Telling = Watched → Result Polled Refusal → Told → Type 0

-- the rows, where they are new
abbrev pub TellsRows : Telling
TellsRows watch reply t = t ≡ tells polled_told reply

-- or what changed: from the rows that were told last, of which there are none before the first poll
abbrev pub TellsChanges : Telling
TellsChanges watch (Ok (polled.New rows)) t =
    (changes : List RowChange) × AreChanges (unwrap_or watch.last []) rows changes × (t ≡ changes_told changes)
TellsChanges watch (Ok polled.Unchanged) t = t ≡ told_alone Nothing
TellsChanges watch (Err e) t = t ≡ told_alone (Refused e)

-- the watch of a number is polled, and the reply is told so
pub record PollsAs (telling : Telling) (means : Meanings) (client : ClientState) (n : ℕ) (watch : Watched)
    (before : PlaceState) (t : Told) (after : PlaceState) : Type 0 where
  pub reply : Result Polled Refusal
  pub next : ClientState
  pub answer : IsLinearized means tries client.seat.mark next.seat.mark reply no_change
      (λ s. Ok (poll_at means watch s))
  pub refused : IfErr reply (IsStoreOrMemory ⊤)
  pub stays : AfterQuery ⊤ client next
  pub told : telling watch reply t
  pub left : after ≡ with_watches next (slice_set before.watches n (Some (watch_after watch reply))) before

abbrev pub Polls : Meanings → ClientState → ℕ → Watched → Rule
Polls = PollsAs TellsRows

abbrev pub PollsChanges : Meanings → ClientState → ℕ → Watched → Rule
PollsChanges = PollsAs TellsChanges

-- where a number is said under which something is to be kept, what is kept there is given up first
abbrev pub made_room : DeskCall → PlaceState → PlaceState
made_room (call.Begin keep) p = record p { tickets = room_for keep p.tickets }
made_room (call.Watch keep scan) p = record p { watches = room_for keep p.watches }
made_room other p = p

-- ---- any call that is no change of the group

-- a query
abbrev pub AnswersReading : Meanings → DeskCall → Rule
AnswersReading means (call.Get key) = AnswersQuery value_told (λ c s. get_at means s key.now) means
AnswersReading means (call.Has key) = AnswersQuery is_told (λ c s. has_at means s key.now) means
AnswersReading means (call.Scan scan) = AnswersQuery rows_told (λ c s. view_rows means s scan.now) means
AnswersReading means (call.PulledGet key) = AnswersQuery value_told (λ c s. finite.get s.pulled key.now) means
AnswersReading means (call.PulledScan scan) = AnswersQuery rows_told (λ c s. rows_of scan.now s.pulled) means
AnswersReading means call.Empty = AnswersQuery is_told (λ c s. is_empty_at means s) means
AnswersReading means call.Pending = AnswersQuery pending_told (λ c s. s.pending) means
AnswersReading means call.Cookie = AnswersQuery cookie_told (λ c s. s.cookie) means
AnswersReading means call.Closed = AnswersQuery is_told (λ c s. s.closed) means
AnswersReading means (call.Push skip) =
    AnswersQuery bytes_told (λ c s. push_text c.group.identity (drop skip s.pending)) means
AnswersReading means call.Moment = λ b. TellsMomentAs means b.reading b
AnswersReading means other = TellsOutcome (Faulty fault.NotAsked)

-- and what a client does beside queries and changes
abbrev pub AnswersLooking : Meanings → DeskCall → Rule
AnswersLooking means (call.Sit id) = AnswersSit means id.now
AnswersLooking means call.Leave = ByAny Leaves
AnswersLooking means call.BeginRead = ByClient (MayBeginReading means)
AnswersLooking means call.EndRead = ByReader EndsReading
AnswersLooking means call.Slots = ByClient CountsFree
AnswersLooking means call.Refresh = ByClient (Refreshes means)
AnswersLooking means (call.Begin keep) = ByClient (λ c b. BeginsPull keep means c (made_room (call.Begin keep) b))
AnswersLooking means (call.Forget n) = λ b. At (kept_at b.tickets n) fault.NoTicket (Forgets n) b
AnswersLooking means (call.Watch keep scan) = ByClient (λ c b. Watches keep scan.now c
    (made_room (call.Watch keep scan) b))
AnswersLooking means (call.Poll n) = ByClient (λ c b. At (kept_at b.watches n) fault.NoWatch
    (λ watch. Polls means c n watch) b)
AnswersLooking means (call.PollChanges n) = ByClient (λ c b. At (kept_at b.watches n) fault.NoWatch
    (λ watch. PollsChanges means c n watch) b)
AnswersLooking means (call.Unwatch n) = λ b. At (kept_at b.watches n) fault.NoWatch (Unwatches n) b
AnswersLooking means other = AnswersReading means other
