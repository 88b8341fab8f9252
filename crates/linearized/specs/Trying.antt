-- One try of a call that makes a change: what is proposed at the head, and how its publishing ends.
use Rattle.std.specs.Prelude.{ℕ, ◌≡◌, ◌≢◌, ◌⊎◌, List, [], ◌∷◌, ◌++◌, Option, Some, None, Result, Err}
use mathlib.Core.List.{IsPrefix}
use Rattle.group_history.specs.declared.changes.Change.{Change}
use Rattle.group_history.specs.declared.refs.Ref.{Ref}
use Rattle.group_history.specs.declared.refusals.Refusal.{Refusal}
use Rattle.group_history.specs.declared.refusals.Refusal.TheVariants as refusal
use Rattle.group_history.specs.Meaning.{Meanings}
use Rattle.group_history.specs.Record.{after}
use Rattle.group_history.specs.Refs.{stamp_of}
use Rattle.group_history.specs.Spelling.{Spells}
use Rattle.group_history.specs.State.{State}
use Rattle.head_word.specs.declared.entry.Entry.{Entry}
use Rattle.head_word.specs.Books.{drawn, last_move, moved, record_of}
use Rattle.head_word.specs.Marks.{Known}
use Rattle.linearized.specs.declared.trying.Published.{Published}
use Rattle.linearized.specs.declared.trying.Published.TheVariants as published
use Rattle.linearized.specs.Answered.{IsPoint, own_moves}

-- by what the caller knows of the book, the commit at the base spells this state
abbrev pub IsBase : Meanings → Known → Ref → State → Type 0
IsBase means m base s = Spells means (drawn m.log) (stamp_of base) s

-- The exchange was won: the call has its point directly before the change, and the state there is this one.
abbrev pub IsWon : Meanings → Known → Known → Change → State → Type 0
IsWon means old new change s = (log : List Entry) × IsPoint means old new (Some change) log
    × (after (record_of log) ≡ s)

-- What is seen of the book ends in the move by which the seat went from the base to this commit.
abbrev pub IsMove : Known → Known → Ref → Ref → Change → Type 0
IsMove old new base to change = (log : List Entry) × IsPrefix old.log log × (last_move log ≡ base)
    × (new.log ≡ log ++ moved old.seat to change ∷ [])

-- the entries that a publishing adds to the book by this seat: the move, where the exchange was won
abbrev pub added : Option ℕ → Ref → Change → Published → List Entry
added by to change published.Won = moved by to change ∷ []
added by to change published.Lost = []

-- The exchange was lost: the seat did not move the head, which is not at the base any more.
abbrev pub IsLost : Known → Known → Ref → Type 0
IsLost old new base = (own_moves new ≡ own_moves old) × (last_move new.log ≢ base)

-- how a publishing ended, of a change that follows on the state that the base spells
abbrev pub Ends : Meanings → Known → Known → Ref → Change → Published → Type 0
Ends means old new base change published.Won = (s : State) → IsBase means old base s → IsWon means old new change s
Ends means old new base change published.Lost = IsLost old new base

-- A refusal before anything was published is for want of something that may stop a proposal, or it is the right reply
-- and stands for no change. No change of others is to blame.
abbrev pub IsUnproposed : {X : Type 0} → (Refusal → Type 0) → (Result X Refusal → Option Change) → Result X Refusal
    → Refusal → Type 0
IsUnproposed stops change right e = (stops e ⊎ ((right ≡ Err e) × (change (Err e) ≡ None))) × (e ≢ refusal.Moved)
