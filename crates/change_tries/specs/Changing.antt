-- How one try of a change ends.
use Rattle.std.specs.Prelude.{ℕ, ◌≡◌, ◌<◌, Bool, true, false, Some, None, Option, Result, Ok, Err}
use Rattle.group_history.specs.declared.changes.Change.{Change}
use Rattle.group_history.specs.declared.refs.Ref.{Ref}
use Rattle.group_history.specs.declared.refusals.Refusal.{Refusal}
use Rattle.group_history.specs.declared.responses.Ended.{Ended}
use Rattle.group_history.specs.declared.responses.Ended.TheVariants as ended
use Rattle.group_history.specs.Meaning.{Meanings}
use Rattle.group_history.specs.State.{State}
use Rattle.head_word.specs.Books.{drawn}
use Rattle.head_word.specs.Marks.{Known, others}
use Rattle.linearized.specs.Answered.{IsLinearized, IsAnswered, own_moves}
use Rattle.linearized.specs.Trying.{IsLost, IsWon}
use Rattle.reader_claims.specs.declared.view.Sizes.{Sizes}
use Rattle.reader_claims.specs.Seats.{kind_end}
use Rattle.commit_graph.specs.Seats.{SeatState}
use Rattle.change_tries.specs.Leaving.{FreesFor, FreesNone}
use Rattle.change_tries.specs.Proposing.{HasLast, asked_reply, change_asked, kind_for}
use Rattle.change_tries.specs.declared.trying.Tried.{Tried}
use Rattle.change_tries.specs.declared.trying.Tried.TheVariants as tried

-- At the state of the head: the change was made, or nothing was to be changed, or others moved the head.
abbrev pub EndsTry : Meanings → Known → Known → Ref → State → ℕ → Change → Tried → Type 0
EndsTry means old new base s last change (tried.Made at) = (asked_reply means s last change ≡ Ok true)
    × IsWon means old new change s × HasLast (drawn new.log) at change
EndsTry means old new base s last change tried.Same = (asked_reply means s last change ≡ Ok false) × (new ≡ old)
EndsTry means old new base s last change tried.Lost = IsLost old new base

-- The whole try is answered rightly; where it was lost, the seat did not move the head, and others added an entry.
abbrev pub AnswersTry : Meanings → ℕ → Known → Known → ℕ → Change → Result Tried Refusal → Type 0
AnswersTry means tries old new last change (Ok (tried.Made at)) = IsAnswered means old new (Some change)
    (λ s. asked_reply means s last change ≡ Ok true) × HasLast (drawn new.log) at change
AnswersTry means tries old new last change (Ok tried.Same) = IsAnswered means old new None
    (λ s. asked_reply means s last change ≡ Ok false)
AnswersTry means tries old new last change (Ok tried.Lost) = (own_moves new ≡ own_moves old) × (others old < others new)
AnswersTry means tries old new last change (Err e) = IsLinearized means tries old new (Err e) (change_asked change)
    (λ s. asked_reply means s last change)

-- What one try did to slots: where it was lost or refused it gave up one draft at most, else none.
abbrev pub FreesTry : (ℕ → Type 0) → Change → SeatState → SeatState → Result Tried Refusal → Type 0
FreesTry may change old new (Ok (tried.Made at)) = FreesFor may 0 old new change
FreesTry may change old new (Ok tried.Same) = FreesNone may 0 old new
FreesTry may change old new (Ok tried.Lost) = FreesNone may 1 old new
FreesTry may change old new (Err e) = FreesNone may 1 old new

-- the same of a change that was proposed: whether the head was moved
abbrev pub FreesMove : (ℕ → Type 0) → Change → SeatState → SeatState → Result (Option Ref) Refusal → Type 0
FreesMove may change old new (Ok (Some at)) = FreesFor may 0 old new change
FreesMove may change old new (Ok None) = FreesNone may 1 old new
FreesMove may change old new (Err e) = FreesNone may 1 old new

-- a draft may take slots below the end of the kind that the change may take at the state
abbrev pub EndsAt : Sizes → State → Change → ℕ → Type 0
EndsAt sizes s change end = end ≡ kind_end sizes (kind_for s change)

-- whether the change was made
abbrev pub is_made : Option Ref → Bool
is_made (Some at) = true
is_made None = false

-- how a pull was ended: where it changed nothing, the same is there
abbrev pub ended_as : Option Ref → Ended
ended_as (Some at) = ended.Applied
ended_as None = ended.Same
