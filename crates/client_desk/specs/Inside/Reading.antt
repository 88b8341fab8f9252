-- What queries are answered at a commit's version, and told.
use Rattle.std.specs.Prelude.{ℕ, ◌≡◌, ◌==◌, ⊤, Bool, true, false, drop, length, None, Result, Ok, IfErr, IfOk}
use Rattle.std.specs.FinMap as finite
use Rattle.group_history.specs.declared.refusals.Refusal.{Refusal}
use Rattle.group_history.specs.Map.{Bytes}
use Rattle.group_history.specs.Meaning.{Meanings}
use Rattle.group_history.specs.Scans.{rows_of}
use Rattle.group_history.specs.Spelling.{Version}
use Rattle.group_history.specs.State.{State}
use Rattle.linearized.specs.Answered.{IsLinearized, IsPoint, no_change}
use Rattle.change_tries.specs.Missing.{IsStoreOrMemory}
use Rattle.push_body.specs.Bodies.{push_text}
use Rattle.rebase.specs.Clients.{ClientState, AfterQuery}
use Rattle.client_desk.specs.declared.calls.DeskCall.{DeskCall}
use Rattle.client_desk.specs.declared.calls.DeskCall.TheVariants as call
use Rattle.client_desk.specs.declared.outcomes.Outcome.TheVariants.{Nothing}
use Rattle.client_desk.specs.Answers.{ReadsBy, ReadsKept, moment_by, read_by_client, tries}
use Rattle.client_desk.specs.Told.{Told, bytes_told, cookie_told, is_told, pending_told, rows_told, tells}
use Rattle.client_desk.specs.Told.{told_alone, value_told}

-- it reads what the server last sent
abbrev pub is_pulled : DeskCall → Bool
is_pulled (call.PulledGet key) = true
is_pulled (call.PulledScan scan) = true
is_pulled other = false

-- one commit answers it
abbrev pub is_of_one_commit : DeskCall → Bool
is_of_one_commit (call.Get key) = true
is_of_one_commit (call.Has key) = true
is_of_one_commit (call.Scan scan) = true
is_of_one_commit call.Empty = true
is_of_one_commit call.Pending = true
is_of_one_commit call.Cookie = true
is_of_one_commit call.Closed = true
is_of_one_commit other = is_pulled other

-- what it is told there
abbrev pub reading_told : Version → DeskCall → Told
reading_told v (call.Get key) = value_told (finite.get v.read key.now)
reading_told v (call.Has key) = is_told (finite.contains_key v.read key.now)
reading_told v (call.Scan scan) = rows_told (rows_of scan.now v.read)
reading_told v (call.PulledGet key) = value_told (finite.get v.state.pulled key.now)
reading_told v (call.PulledScan scan) = rows_told (rows_of scan.now v.state.pulled)
reading_told v call.Empty = is_told (length (finite.entries v.read) == 0)
reading_told v call.Pending = pending_told v.state.pending
reading_told v call.Cookie = cookie_told v.state.cookie
reading_told v call.Closed = is_told v.state.closed
reading_told v other = told_alone Nothing

-- A client read once, and what it told is right where it read. The moment that was noted before is n, then m.
pub record ToldBy (means : Meanings) (client next : ClientState) (n m : ℕ) (t : Told) (right : State → Told)
    : Type 0 where
  pub reply : Result Told Refusal
  pub answer : IsLinearized means tries client.seat.mark next.seat.mark reply no_change (λ s. Ok (right s))
  pub point : IfOk reply (λ x. IsPoint means client.seat.mark next.seat.mark None next.seat.mark.log)
  pub at : IfOk reply (λ x. x ≡ right (read_by_client next))
  pub refused : IfErr reply (IsStoreOrMemory ⊤)
  pub stays : AfterQuery ⊤ client next
  pub told : t ≡ tells (λ x. x) reply
  pub moment : m ≡ moment_by reply next n

-- What an open reading told is right where it reads.
pub record ToldKept (reader : ClientState) (n m : ℕ) (t : Told) (right : State → Told) : Type 0 where
  pub reply : Result Told Refusal
  pub answer : IfOk reply (λ x. x ≡ right (read_by_client reader))
  pub refused : IfErr reply (IsStoreOrMemory ⊤)
  pub told : t ≡ tells (λ x. x) reply
  pub moment : m ≡ moment_by reply reader n

-- a body of a push that a client wrote, or an open reading
abbrev pub pushed_by : ℕ → ClientState → State → Bytes
pushed_by skip client s = push_text client.group.identity (drop skip s.pending)

abbrev pub PushedBy : ℕ → Meanings → ClientState → ClientState → ℕ → ℕ → Told → Type 0
PushedBy skip means client next n m t = (read : ReadsBy bytes_told (pushed_by skip client) means client t next)
    × (m ≡ moment_by read.reply next n)

abbrev pub PushedKept : ℕ → ClientState → ℕ → ℕ → Told → Type 0
PushedKept skip reader n m t = (read : ReadsKept bytes_told (pushed_by skip reader) reader t)
    × (m ≡ moment_by read.reply reader n)
