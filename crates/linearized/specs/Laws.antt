-- What is proved of points, and of the changes that replies stand for.
use Rattle.std.specs.Prelude.{◌≡◌, ℕ, List, [], ◌++◌, Option, Some, Result}
use mathlib.Core.List.{IsPrefix}
use Rattle.group_history.specs.declared.changes.Change.{Change}
use Rattle.group_history.specs.declared.mutations.MutationFields.{MutationFields as Mutation}
use Rattle.group_history.specs.declared.refusals.Refusal.{Refusal}
use Rattle.group_history.specs.declared.responses.Ended.{Ended}
use Rattle.group_history.specs.declared.responses.Response.{Response}
use Rattle.group_history.specs.Cookies.{Cookie}
use Rattle.group_history.specs.Meaning.{Meanings}
use Rattle.group_history.specs.Mutating.{left_by_mutate}
use Rattle.group_history.specs.Pulling.{left_by_end}
use Rattle.group_history.specs.Record.{IsAccepted, IsLegal, after}
use Rattle.group_history.specs.State.{State}
use Rattle.head_word.specs.declared.entry.Entry.{Entry}
use Rattle.head_word.specs.Books.{record_of, with_change}
use Rattle.head_word.specs.Marks.{Known}
use Rattle.linearized.specs.Answered.{IsPoint, own_moves}
use Rattle.linearized.specs.Changes.{change_made, change_ended, after_made}

-- For a caller beside whom nobody moves the head: where its record grew in the call by the call's own change at most,
-- the call's point is the record before it.
abbrev pub IsAtOnce : Meanings → Type 0
IsAtOnce means = (old new : Known) (change : Option Change) (log : List Entry) → IsPoint means old new change log
    → record_of new.log ≡ record_of old.log ++ with_change change [] → record_of log ≡ record_of old.log

-- Laws of points, and of the changes that replies stand for.
pub record ChangeLaws (means : Meanings) : Type 0 where
  -- The record before the call begins the record at its point. This one, with the change behind it where there is one,
  -- begins the record after the call.
  pub record_before : (old new : Known) (change : Option Change) (log : List Entry) → IsPoint means old new change log
      → IsPrefix (record_of old.log) (record_of log)
  pub record_after : (old new : Known) (change : Option Change) (log : List Entry) → IsPoint means old new change log
      → IsPrefix (record_of log ++ with_change change []) (record_of new.log)
  -- the record at the point is legal, and the change is accepted at the state there
  pub legal : (old new : Known) (change : Option Change) (log : List Entry) → IsPoint means old new change log
      → IsLegal means (record_of log)
  pub accepted : (old new : Known) (c : Change) (log : List Entry) → IsPoint means old new (Some c) log
      → IsAccepted means (after (record_of log)) c
  -- with the change behind it, a record's state is the state after the change; without one it stays as it was
  pub made : (record_ : List Change) (change : Option Change)
      → after (record_ ++ with_change change []) ≡ after_made (after record_) change
  -- a call made one change, or none: whatever two points say of it, they say the same
  pub one_change : (old new : Known) (one other : Option Change) (xs ys : List Entry) → IsPoint means old new one xs
      → IsPoint means old new other ys → one ≡ other
  -- a point of the later part of a call is one of the whole call, where the seat did not move the head in the earlier
  -- part
  pub later : (old mid new : Known) (change : Option Change) (log : List Entry) → IsPrefix old.log mid.log
      → mid.seat ≡ old.seat → own_moves mid ≡ own_moves old
      → IsPoint means mid new change log → IsPoint means old new change log
  -- what a reply leaves of a state is the state after the change that it stands for
  pub mutated : (s : State) (x : Mutation) (reply : Result ℕ Refusal)
      → left_by_mutate reply s x ≡ after_made s (change_made x reply)
  pub ended : (s : State) (ticket : Cookie) (r : Response) (reply : Result Ended Refusal)
      → left_by_end reply s r ≡ after_made s (change_ended ticket r reply)
