-- What a step on one of the two words tells its seat.
use Rattle.std.specs.Prelude.{ℕ, ◌≡◌, ◌==◌, List, [], ◌∷◌, ◌++◌, MatchBool, Option, Some, None}
use mathlib.Core.List.{IsPrefix}
use Rattle.logbook.specs.Pages.{Step, View}
use Rattle.group_history.specs.Meaning.{Meanings}
use Rattle.head_word.specs.declared.entry.Answer.{Answer}
use Rattle.head_word.specs.declared.entry.Entry.{Entry}
use Rattle.head_word.specs.Books.{drafted, empty_leaf, opening_snapshot, IsOpened}
use Rattle.head_word.specs.Tallies.{key_of, count}

-- a step that was taken
pub record Taken : Type 0 where
  -- the entry that it asked for
  pub ask : Entry
  -- the number that it expected in the word, and the one that it would put there; of a look both are 0
  pub expected : ℕ
  pub new : ℕ
  -- the number that it found there
  pub found : ℕ
  -- what the seat had seen of the book before the step, and has seen after it: the whole book as the step left it
  pub before : List Entry
  pub after : List Entry
  -- how many entries the seat had added before and after, where the step told that
  pub answer : Option Answer

-- What the step tells, by its seat's view before it, the number found, and the view after it. A view has what was seen
-- of the book, a pen and an answer; the pens and the answer of the view before play no part.
abbrev pub step_tells : (Taken → Type 0) → Step Entry → View Entry Answer → ℕ → View Entry Answer → Type 0
step_tells told step (before, (pen, asked)) found (after, (left, answer)) = told (record {
  ask = step.ask;
  expected = step.old;
  new = step.new;
  found = found;
  before = before;
  after = after;
  answer = answer;
})

-- an answer: so many entries before a step, and so many after it
abbrev pub tallied : ℕ → ℕ → Answer
tallied before after = record { before = before; after = after }

-- the step answered how many entries its seat had in this book, just before it, and has in the book just after it
abbrev pub Counted : Taken → List Entry → Type 0
Counted t log = t.answer ≡ Some (tallied (count (key_of t.ask) log) (count (key_of t.ask) t.after))

-- A look found what the word says of the book.
pub record LooksAtBook (says : List Entry → ℕ) (means : Meanings) (t : Taken) : Type 0 where
  pub opened : IsOpened means t.after
  pub word : says t.after ≡ t.found

-- A seat's look did so, and counted the seat's entries.
pub record CountsEntries (says : List Entry → ℕ) (means : Meanings) (t : Taken) : Type 0 where
  pub opened : IsOpened means t.after
  pub word : says t.after ≡ t.found
  pub counted : Counted t t.after

-- An exchange was won: its entry was added to a book of which the word said just what was expected.
pub record AddsEntry (says : List Entry → ℕ) (means : Meanings) (t : Taken) : Type 0 where
  pub log : List Entry
  pub seen : IsPrefix t.before log
  pub opened : IsOpened means log
  pub word : says log ≡ t.expected
  pub added : t.after ≡ log ++ t.ask ∷ []
  pub counted : Counted t log

-- An exchange was lost: nothing was added, and the word says something else of the book.
pub record Misses (says : List Entry → ℕ) (t : Taken) : Type 0 where
  pub word : says t.after ≡ t.found
  pub counted : Counted t t.after

-- An exchange is won where it found what it expected, and else lost.
pub record Exchanges (says : List Entry → ℕ) (means : Meanings) (t : Taken) : Type 0 where
  pub opened : IsOpened means t.after
  pub outcome : MatchBool (t.found == t.expected) (AddsEntry says means t) (Misses says t)

-- The exchange that opens the book: where nothing was added by no seat before, the book is the opening's draft and the
-- entry that was asked for.
pub record OpensBook (t : Taken) : Type 0 where
  pub counts : Answer
  pub counted : t.answer ≡ Some counts
  pub opened : counts.before ≡ 0 → t.after ≡ drafted None 0 (empty_leaf ∷ opening_snapshot ∷ []) ∷ t.ask ∷ []
