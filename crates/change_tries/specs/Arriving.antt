-- A call that has looked where the head is, and then which stamps are drawn.
use Rattle.std.specs.Prelude.{ℕ, ◌≡◌, ◌≤◌, List, None}
use mathlib.Core.List.{IsPrefix}
use Rattle.group_history.specs.declared.refs.Ref.{Ref}
use Rattle.group_history.specs.Meaning.{Meanings}
use Rattle.group_history.specs.Record.{after}
use Rattle.head_word.specs.declared.entry.Entry.{Entry}
use Rattle.head_word.specs.Books.{last_move, next_stamp, record_of}
use Rattle.head_word.specs.Marks.{Known, others}
use Rattle.linearized.specs.Answered.{IsPoint, own_moves}
use Rattle.linearized.specs.Trying.{IsBase}

-- what the same caller knew when it had seen this much of the book
abbrev pub when_seen : Known → List Entry → Known
when_seen m log = record m { log = log }

-- When the call began, `old` was known; when it looked, `seen`, and since then `new`. The head was at `base` then,
-- which is a commit of the state there, and all stamps below `first` are drawn by now.
pub record IsArrived (means : Meanings) (old seen new : Known) (base : Ref) (first : ℕ) : Type 0 where
  pub point : IsPoint means old new None seen.log
  pub last : base ≡ last_move seen.log
  pub spelled : IsBase means new base (after (record_of seen.log))
  pub drawn : first ≡ next_stamp new.log
  pub seat : seen.seat ≡ old.seat
  pub since : IsPrefix seen.log new.log
  pub own : own_moves seen ≡ own_moves old
  pub same : own_moves new ≡ own_moves old
  pub before : others old ≤ others seen
  pub others : others old ≤ others new
