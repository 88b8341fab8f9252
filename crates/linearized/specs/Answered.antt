-- When a call of a client is answered rightly, whatever others do at the same time.
--
-- A call takes effect at one point between its beginning and its end: this is linearizability, said of the book of a
-- group. The book's record up to the point gives the state there, and the reply is the right one at this state. A
-- change that the call made stands directly behind the point, and the call made no other. This project's own words.
use Rattle.std.specs.Prelude.{ℕ, ◌≡◌, ◌+◌, ◌≤◌, Bool, true, false, List, [], ◌∷◌, ◌++◌, filter, Option, Some, None}
use Rattle.std.specs.Prelude.{Result, Ok, Err, max}
use mathlib.Core.List.{IsPrefix}
use Rattle.group_history.specs.declared.changes.Change.{Change}
use Rattle.group_history.specs.declared.refusals.Refusal.{Refusal}
use Rattle.group_history.specs.declared.refusals.Refusal.TheVariants as refusal
use Rattle.group_history.specs.declared.refs.Ref.{Ref}
use Rattle.group_history.specs.Meaning.{Meanings}
use Rattle.group_history.specs.Record.{IsLegal, after}
use Rattle.group_history.specs.State.{State}
use Rattle.head_word.specs.declared.entry.Entry.{Entry}
use Rattle.head_word.specs.declared.entry.Entry.TheVariants as entry
use Rattle.head_word.specs.Books.{moved, record_of}
use Rattle.head_word.specs.Marks.{Known, own, others}

-- an entry that moves the head; drafts leave it where it is
abbrev pub is_move : Entry → Bool
is_move (entry.Draft d) = false
is_move (entry.Move m) = true
is_move (entry.Opening o) = true

-- the moves of the head that the mark's seat has added
abbrev pub own_moves : Known → List Entry
own_moves m = filter is_move (own m)

-- the move by which a seat makes a change, where there is one
abbrev pub moves_for : Option ℕ → Ref → Option Change → List Entry
moves_for seat to None = []
moves_for seat to (Some c) = moved seat to c ∷ []

-- A call that began when its caller knew `old` of the book, and ended when it knew `new`, has a point where the book
-- was `log`: not before the call, and not after it. The change, where it made one, stands directly behind the point, as
-- a move of the caller's seat, and is accepted there. In the whole call the seat moved the head by this change alone.
pub record IsPoint (means : Meanings) (old new : Known) (change : Option Change) (log : List Entry) : Type 0 where
  pub to : Ref
  pub since : IsPrefix old.log log
  pub until : IsPrefix (log ++ moves_for old.seat to change) new.log
  pub legal : IsLegal means (record_of (log ++ moves_for old.seat to change))
  pub moves : own_moves new ≡ own_moves old ++ moves_for old.seat to change

-- the reply is right at the state of some such point
abbrev pub IsAnswered : Meanings → Known → Known → Option Change → (State → Type 0) → Type 0
IsAnswered means old new change right = (log : List Entry) × IsPoint means old new change log
    × right (after (record_of log))

-- a refusal for want of something: of memory, of a try more, of a slot or of a stamp
abbrev pub is_resource_refusal : Refusal → Bool
is_resource_refusal refusal.NoMemory = true
is_resource_refusal refusal.Moved = true
is_resource_refusal refusal.Busy = true
is_resource_refusal refusal.Gone = true
is_resource_refusal refusal.Full = true
is_resource_refusal refusal.Stamps = true
is_resource_refusal e = false

-- such a refusal says nothing of the group's state, unless it stands for a change
abbrev pub is_mute : Refusal → Option Change → Bool
is_mute e None = is_resource_refusal e
is_mute e (Some c) = false

-- The seat did not move the head; and where the call says that others did so first, they added as many entries as it
-- was to try, and one at least.
abbrev pub IsLeft : ℕ → Known → Known → Refusal → Type 0
IsLeft tries old new e = (own_moves new ≡ own_moves old) × (e ≡ refusal.Moved → others old + max 1 tries ≤ others new)

-- a refusal: one that says nothing of the state left the group alone, and any other is right at a point, as a value is
abbrev pub IsRefused : Meanings → ℕ → Known → Known → Bool → Refusal → Option Change → (State → Type 0) → Type 0
IsRefused means tries old new true e change right = IsLeft tries old new e
IsRefused means tries old new false e change right = IsAnswered means old new change right

-- What a call answers, by the change that each reply stands for, and by the right reply at each state. A refusal may
-- stand for a change too: that the server does not know the group closes it.
abbrev pub IsLinearized : {X : Type 0} → Meanings → ℕ → Known → Known → Result X Refusal → (Result X Refusal
    → Option Change)
    → (State → Result X Refusal) → Type 0
IsLinearized means tries old new (Ok x) change right = IsAnswered means old new (change (Ok x)) (λ s. right s ≡ Ok x)
IsLinearized means tries old new (Err e) change right = IsRefused means tries old new (is_mute e (change (Err e))) e
    (change (Err e)) (λ s. right s ≡ Err e)

-- what the replies of a query stand for
abbrev pub no_change : {X : Type 0} → Result X Refusal → Option Change
no_change reply = None
