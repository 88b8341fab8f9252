-- Worked examples of calls that are answered rightly, and of calls that are not, computed by the definitions alone.
use Rattle.std.specs.Prelude.{◌≡◌, ℕ, List, [], ◌∷◌, ◌++◌, Option, Some, None, Result, Ok, Err, codes}
use Rattle.logbook.specs.Pages.{Book}
use Rattle.group_history.specs.declared.changes.Change.{Change}
use Rattle.group_history.specs.declared.changes.Change.TheVariants.{Mutated, Pulled, Closed}
use Rattle.group_history.specs.declared.refusals.Refusal.{Refusal}
use Rattle.group_history.specs.declared.refusals.Refusal.TheVariants as refusal
use Rattle.group_history.specs.declared.responses.Ended.{Ended}
use Rattle.group_history.specs.declared.responses.Response.TheVariants as response
use Rattle.group_history.specs.Cookies.{null_cookie}
use Rattle.group_history.specs.Examples.{trial, up, pull, put_n}
use Rattle.group_history.specs.Map.{Bytes}
use Rattle.group_history.specs.Mutating.{mutate_reply}
use Rattle.group_history.specs.Pulling.{end_reply}
use Rattle.group_history.specs.Queries.{get_at}
use Rattle.group_history.specs.State.{State}
use Rattle.head_word.specs.declared.entry.Entry.{Entry}
use Rattle.head_word.specs.Books.{moved, book_opening}
use Rattle.head_word.specs.Marks.{Known, known}
use Rattle.linearized.specs.Answered.{IsPoint, IsLinearized, no_change}
use Rattle.linearized.specs.Changes.{change_made, change_ended}

-- the caller has the seat 0, and knows this much of the book
abbrev pub seen : Book → List Entry → Known
seen book log = known book log (Some 0)

-- a book that was just opened for two seats
abbrev pub begun : List Entry
begun = book_opening 2 (record { bits = 1 })

-- a change that the caller made, and one that the seat 1 made
abbrev pub ours : Change → Entry
ours c = moved (Some 0) (record { bits = 2 }) c

abbrev pub theirs : Change → Entry
theirs c = moved (Some 1) (record { bits = 3 }) c

-- five is pulled, and then the mutation raises it
abbrev pub five_pulled : Change
five_pulled = Pulled null_cookie (pull 1 [] (put_n (codes "5")))

abbrev pub raise : Change
raise = Mutated (up 1)

-- others pulled five; and then the caller raised it
abbrev pub book_pulled : List Entry
book_pulled = begun ++ theirs five_pulled ∷ []

abbrev pub book_raised : List Entry
book_raised = begun ++ theirs five_pulled ∷ ours raise ∷ []

-- The right replies to three calls: what the number is; to raise it, as the first mutation of its client; and to end a
-- pull whose response says that the server does not know the group.
abbrev pub number_at : State → Result (Option Bytes) Refusal
number_at s = Ok (get_at trial s (codes "n"))

abbrev pub raise_at : State → Result ℕ Refusal
raise_at s = mutate_reply trial s 0 (up 1)

abbrev pub close_at : State → Result Ended Refusal
close_at s = end_reply s (codes "null") response.StateNotFound

-- each of them is answered so to a caller who knew the one book before the call, and knows the other after it
abbrev pub Asked : Book → List Entry → List Entry → Result (Option Bytes) Refusal → Type 0
Asked book before after reply = IsLinearized trial 1 (seen book before) (seen book after) reply no_change number_at

abbrev pub Raised : ℕ → Book → List Entry → List Entry → Result ℕ Refusal → Type 0
Raised tries book before after reply = IsLinearized trial tries (seen book before) (seen book after) reply
    (change_made (up 1)) raise_at

abbrev pub Closing : Book → List Entry → List Entry → Result Ended Refusal → Type 0
Closing book before after reply = IsLinearized trial 1 (seen book before) (seen book after) reply
    (change_ended null_cookie response.StateNotFound) close_at

pub record AnsweredExamples (book : Book) : Type 0 where
  -- five is pulled while the caller asks: that there is no number is right, and that it is five is right as well
  pub asked_meanwhile : Asked book begun book_pulled (Ok None) × Asked book begun book_pulled (Ok (Some (codes "5")))
  -- but it is not right to answer at an older mark, once the caller has seen the pull
  pub asked_late : Asked book book_pulled book_pulled (Ok None) → ⊥
  -- the number is raised behind the pull of others, and the one point of this call is between the two
  pub raised_behind : Raised 1 book begun book_raised (Ok 1)
  pub one_point : (log : List Entry) → IsPoint trial (seen book begun) (seen book book_raised)
      (Some raise) log → log ≡ book_pulled
  -- an id whose mutation the caller did not publish is wrong, and so is one beside which the caller published something
  -- else
  pub unpublished : Raised 1 book book_pulled book_pulled (Ok 1) → ⊥
  pub published_twice : Raised 1 book begun (begun ++ ours five_pulled ∷ ours raise ∷ []) (Ok 1) → ⊥
  -- where there is no number the mutator refuses with 2: no other refusal is right that says something of the state
  pub refused : Raised 1 book begun begun (Err (refusal.Refused 2))
  pub refused_wrongly : Raised 1 book begun begun (Err refusal.Stale) → ⊥
  -- no refusal is right after the mutation was published
  pub refused_late : Raised 1 book book_pulled book_raised (Err refusal.NoMemory) → ⊥
  -- that others came first is right for one try where they added one entry, and not for two tries
  pub moved_once : Raised 1 book begun book_pulled (Err refusal.Moved)
  pub moved_early : Raised 2 book begun book_pulled (Err refusal.Moved) → ⊥
  -- StateNotFound is right where the caller closed the group, and only there
  pub closed : Closing book book_pulled (book_pulled ++ ours Closed ∷ []) (Err refusal.StateNotFound)
  pub left_open : Closing book book_pulled book_pulled (Err refusal.StateNotFound) → ⊥
