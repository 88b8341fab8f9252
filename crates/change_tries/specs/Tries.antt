-- What the tries of a change left, since its call began, and how the call ends.
use Rattle.std.specs.Prelude.{ℕ, Bool, ◌≡◌, ◌⊎◌, ◌+◌, ◌<◌, ◌≤◌, List, [], Option, Some, None, Result, Ok, Err, IfErr}
use Rattle.std.specs.Prelude.{max}
use mathlib.Core.List.{IsPrefix}
use Rattle.group_history.specs.declared.changes.Change.{Change}
use Rattle.group_history.specs.declared.changes.Change.TheVariants.{Mutated, Pulled, Closed}
use Rattle.group_history.specs.declared.refs.Ref.{Ref}
use Rattle.group_history.specs.declared.refusals.Refusal.{Refusal}
use Rattle.group_history.specs.declared.mutators.Ran.{Ran}
use Rattle.group_history.specs.Map.{Bytes}
use Rattle.group_history.specs.Meaning.{Meanings}
use Rattle.group_history.specs.Record.{after}
use Rattle.group_history.specs.Spelling.{Contents}
use Rattle.group_history.specs.State.{State}
use Rattle.head_word.specs.declared.entry.Entry.{Entry}
use Rattle.head_word.specs.Books.{drawn, last_move, next_stamp, record_of}
use Rattle.head_word.specs.Marks.{others}
use Rattle.chunk_slots.specs.Seats.{IsIdle}
use Rattle.commit_graph.specs.Seats.{GroupId, IsReading, IsSameSeat, SeatState}
use Rattle.linearized.specs.Answered.{IsLinearized, own_moves}
use Rattle.linearized.specs.Trying.{IsBase}
use Rattle.change_tries.specs.Arriving.{IsArrived, when_seen}
use Rattle.change_tries.specs.Causes.{HasCause}
use Rattle.change_tries.specs.Changing.{is_made}
use Rattle.change_tries.specs.declared.trying.Tried.{Tried}
use Rattle.change_tries.specs.declared.trying.Tried.TheVariants as tried
use Rattle.change_tries.specs.Leaving.{Frees, FreesNone, MayTake, spared}
use Rattle.change_tries.specs.Missing.{map_ok}
use Rattle.change_tries.specs.Proposing.{HasLast, asked_reply, change_asked}
use Rattle.change_tries.specs.Runs.{IsAskedRun, IsFirstRun, IsFresh, IsRunBehind}
use Rattle.change_tries.specs.declared.runs.AskedRun.{AskedRun}
use Rattle.change_tries.specs.declared.runs.NextStep.{NextStep}
use Rattle.change_tries.specs.declared.runs.NextStep.TheVariants as step
use Rattle.change_tries.specs.declared.trying.Attempt.{Attempt}
use Rattle.change_tries.specs.declared.trying.TryOutcome.{TryOutcome}
use Rattle.change_tries.specs.declared.trying.TryOutcome.TheVariants as turn
use Rattle.change_tries.specs.declared.trying.Progress.{Progress}
use Rattle.change_tries.specs.declared.trying.Progress.TheVariants as progress

-- Since `before` the seat lost so many tries of the change to others, and did no more: it moved no head, and gave up
-- one draft at most for each.
pub record IsSince (reused : Type 0) (before : SeatState) (lost : ℕ) (change : Change) (seat : SeatState) : Type 0 where
  pub same : IsSameSeat before seat
  pub own : own_moves seat.mark ≡ own_moves before.mark
  pub others : others before.mark + lost ≤ others seat.mark
  pub gave : reused → FreesNone (MayTake before.table.sizes (Some change) before.mark seat.mark) lost before seat

-- And then it arrived at the head, when it had seen this much of the book: that is the try that is under way.
pub record IsArrivedSince (means : Meanings) (reused : Type 0) (before : SeatState) (lost : ℕ) (change : Change)
    (seen : List Entry) (seat : SeatState) : Type 0 where
  pub arrived : IsArrived means before.mark (when_seen before.mark seen) seat.mark (last_move seen)
      (next_stamp seat.mark.log)
  pub same : IsSameSeat before seat
  pub others : others before.mark + lost ≤ others (when_seen before.mark seen)
  pub gave : reused → FreesNone (MayTake before.table.sizes (Some change) before.mark seat.mark) lost before seat

-- How a call ends that asked for the change: as one that was made at once.
pub record IsEnded (means : Meanings) (reused : Type 0) (tries : ℕ) (before new : SeatState) (last : ℕ)
    (change : Change)
    (made : Result (Option Ref) Refusal) : Type 0 where
  pub answer : IsLinearized means tries before.mark new.mark (map_ok is_made made) (change_asked change)
      (λ s. asked_reply means s last change)
  pub cause : IfErr made (HasCause means reused last (Some change) before new)
  pub frees : reused → Frees (Some change) (spared made) before new (change_asked change (map_ok is_made made))

-- how a try went on that needed no run more
abbrev pub turn_of : Result Tried Refusal → TryOutcome
turn_of (Ok (tried.Made at)) = turn.Ended (Ok (Some at))
turn_of (Ok tried.Same) = turn.Ended (Ok None)
turn_of (Ok tried.Lost) = turn.Lost
turn_of (Err e) = turn.Ended (Err e)

-- The call arrived at the base when so much of the book had been seen: by what the seat has seen since, it is a commit
-- of the state there.
pub record StandsOn (means : Meanings) (seat : SeatState) (seen : List Entry) (base : Ref) : Type 0 where
  pub since : IsPrefix seen seat.mark.log
  pub spelled : IsBase means seat.mark base (after (record_of seen))
  pub stood : base ≡ last_move seen

-- Where a mutation was made, its client has its id as the last one. A mutation and a closing change something.
abbrev pub IsFoundMade : Contents → Change → Result (Option Ref) Refusal → Type 0
IsFoundMade cs change (Ok (Some at)) = HasLast cs at change
IsFoundMade cs (Mutated x) (Ok None) = ⊥
IsFoundMade cs (Pulled ticket r) (Ok None) = Unit {0}
IsFoundMade cs Closed (Ok None) = ⊥
IsFoundMade cs change (Err e) = Unit {0}

-- A run is asked for at the state, and the seat is as it was; or the seat rests.
abbrev pub IsTurn : (Bytes → Bool) → Meanings → Type 0 → SeatState → SeatState → State → ℕ → Change → TryOutcome
    → Type 0
IsTurn has means reused old new s last change (turn.Run run) = (new ≡ old) × IsAskedRun means
    (drawn old.mark.log) s last
    change run × IsFresh has (drawn old.mark.log) run
IsTurn has means reused old new s last change (turn.Ended made) = (reused → IsIdle new.view)
    × IsFoundMade (drawn new.mark.log) change made
IsTurn has means reused old new s last change turn.Lost = reused → IsIdle new.view

-- what a try tells of the whole call: how it ended, or that one try more was lost
abbrev pub TellsTurn : Meanings → Type 0 → ℕ → SeatState → ℕ → SeatState → ℕ → Change → TryOutcome → Type 0
TellsTurn means reused tries before lost new last change (turn.Run run) = Unit {0}
TellsTurn means reused tries before lost new last change (turn.Ended made) = IsEnded means reused tries before new last
    change made
TellsTurn means reused tries before lost new last change turn.Lost = IsSince reused before (lost + 1) change new

-- The change is under way at a seat of this group: its pin is held, the call arrived, and the run is one that the
-- change asks for at the state there.
pub record IsAttempt (means : Meanings) (reused : Type 0) (group : GroupId) (seat : SeatState) (last : ℕ)
    (change : Change)
    {M : Type 0} (attempt : Attempt M) : Type 0 where
  pub reading : IsReading reused group seat
  pub none : reused → seat.view.taken ≡ []
  pub stands : StandsOn means seat attempt.arrival.seen.log attempt.arrival.base
  pub run : IsAskedRun means (drawn seat.mark.log) (after (record_of attempt.arrival.seen.log)) last change attempt.run

-- A run is asked for in one of the tries that the call may make; or the call ended, and the seat rests.
abbrev pub IsProgress : (Bytes → Bool) → Meanings → Type 0 → GroupId → SeatState → ℕ → ℕ → Change → {M : Type 0}
    → Progress M → Type 0
IsProgress has means reused group new tries last change (progress.Run a) = IsAttempt means reused group new last change
    a
    × (a.lost < max 1 tries) × IsFresh has (drawn new.mark.log) a.run
IsProgress has means reused group new tries last change (progress.Ended made) = (reused → IsIdle new.view)
    × IsFoundMade (drawn new.mark.log) change made

-- what it tells of the whole call
abbrev pub TellsProgress : Meanings → Type 0 → ℕ → SeatState → SeatState → ℕ → Change → {M : Type 0} → Progress M
    → Type 0
TellsProgress means reused tries before new last change (progress.Run a) = IsArrivedSince means reused before a.lost
    change a.arrival.seen.log new
TellsProgress means reused tries before new last change (progress.Ended made) = IsEnded means reused tries before new
    last change made

-- A try after so many that were lost: it goes on so, or it is lost, and the seat rests.
abbrev pub IsGoing : (Bytes → Bool) → Meanings → Type 0 → GroupId → SeatState → ℕ → ℕ → Change → {M : Type 0} → Option
    (Progress M) → Type 0
IsGoing has means reused group new lost last change (Some (progress.Run a)) = IsAttempt means reused group new last
    change a
    × (a.lost ≡ lost) × IsFresh has (drawn new.mark.log) a.run
IsGoing has means reused group new lost last change (Some (progress.Ended made)) = (reused → IsIdle new.view)
    × IsFoundMade (drawn new.mark.log) change made
IsGoing has means reused group new lost last change None = reused → IsIdle new.view

abbrev pub TellsGoing : Meanings → Type 0 → ℕ → SeatState → ℕ → SeatState → ℕ → Change → {M : Type 0}
    → Option (Progress M)
    → Type 0
TellsGoing means reused tries before lost new last change (Some p) = TellsProgress means reused tries before new last
    change p
TellsGoing means reused tries before lost new last change None = IsSince reused before (lost + 1) change new

-- what is next was asked for by the try as it went on
abbrev pub IsPassed : Result NextStep Refusal → TryOutcome → Type 0
IsPassed was (turn.Run run) = was ≡ Ok (step.Run run)
IsPassed was (turn.Ended made) = Unit {0}
IsPassed was turn.Lost = Unit {0}

-- it needs no run more
abbrev pub NeedsNone : TryOutcome → Type 0
NeedsNone (turn.Run run) = ⊥
NeedsNone (turn.Ended made) = Unit {0}
NeedsNone turn.Lost = Unit {0}

-- the run that a try asks for next is the one behind this, which ended so
abbrev pub GoesBehind : (Bytes → Bool) → Meanings → Contents → AskedRun → Ran → TryOutcome → Type 0
GoesBehind has means cs run ran (turn.Run next) = IsRunBehind has means cs run ran next
GoesBehind has means cs run ran (turn.Ended made) = Unit {0}
GoesBehind has means cs run ran turn.Lost = Unit {0}

-- a try that began asks for its first run
abbrev pub BeginsFirst : (Bytes → Bool) → State → Change → TryOutcome → Type 0
BeginsFirst has s change (turn.Run run) = IsFirstRun has s change run
BeginsFirst has s change (turn.Ended made) = Unit {0}
BeginsFirst has s change turn.Lost = Unit {0}

-- A try that began after so many that were lost asks for its first run.
abbrev pub StartsAnew : (Bytes → Bool) → ℕ → Change → {M : Type 0} → Progress M → Type 0
StartsAnew has lost change (progress.Run a) = (lost ≤ a.lost)
    × IsFirstRun has (after (record_of a.arrival.seen.log)) change a.run
StartsAnew has lost change (progress.Ended made) = Unit {0}

abbrev pub StartsIfAny : (Bytes → Bool) → ℕ → Change → {M : Type 0} → Option (Progress M) → Type 0
StartsIfAny has lost change (Some p) = StartsAnew has lost change p
StartsIfAny has lost change None = Unit {0}

-- After a run that ended so: the next one of the same try is asked for, and nothing else was done; or the try was lost,
-- and a later one asks for its first run.
abbrev pub FollowsRun : (Bytes → Bool) → Meanings → SeatState → SeatState → {M : Type 0} → Attempt M → Ran → Change
    → Progress M
    → Type 0
FollowsRun has means old new was ran change (progress.Run a) = ((new ≡ old) × (a.lost ≡ was.lost) ×
    (a.arrival ≡ was.arrival)
    × IsRunBehind has means (drawn old.mark.log) was.run ran a.run) ⊎ StartsAnew has (was.lost + 1) change
    (progress.Run a)
FollowsRun has means old new was ran change (progress.Ended made) = Unit {0}
