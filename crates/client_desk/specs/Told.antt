-- What a call of a place came to, and how the reply of a client is told.
use Rattle.std.specs.Prelude.{ℕ, ◌+◌, Bool, List, [], ◌∷◌, map, decimal, Option, Some, None, Result, Ok, Err}
use Rattle.group_history.specs.declared.refusals.Refusal.{Refusal}
use Rattle.group_history.specs.declared.refusals.Refusal.TheVariants.{NoMemory}
use Rattle.group_history.specs.declared.responses.Ended.{Ended}
use Rattle.group_history.specs.declared.responses.Ended.TheVariants.{Applied, Same}
use Rattle.group_history.specs.declared.mutations.MutationFields.{MutationFields as Mutation}
use Rattle.group_history.specs.declared.mutations.Reason.{Reason}
use Rattle.group_history.specs.declared.mutations.Reason.TheVariants.{Initial, Rebase}
use Rattle.group_history.specs.Cookies.{Cookie}
use Rattle.group_history.specs.Map.{Bytes}
use Rattle.rebase.specs.Counting.{SlotCounts}
use Rattle.rebase.specs.Replies.{Replied}
use Rattle.rebase.specs.Replies as replied
use Rattle.rebase.specs.declared.watching.Polled.{Polled}
use Rattle.rebase.specs.declared.watching.Polled.TheVariants as polled
use Rattle.client_desk.specs.declared.outcomes.Outcome.{Outcome}
use Rattle.client_desk.specs.declared.outcomes.Outcome.TheVariants.{Done, Number, Nothing, Is, Refused}
use Rattle.push_body.specs.Bodies.{mutation_text}
use Rattle.push_body.specs.Rows.{array_text, pending_row, row_text}
use Rattle.row_changes.specs.declared.changes.RowChange.{RowChange}
use Rattle.row_changes.specs.Texts.{change_text}

-- what a call told: what it came to, and bytes
pub record Told : Type 0 where
  pub outcome : Outcome
  pub bytes : Bytes

abbrev pub told : Outcome → Bytes → Told
told outcome bytes = record { outcome = outcome; bytes = bytes }

-- without bytes
abbrev pub told_alone : Outcome → Told
told_alone outcome = told outcome []

abbrev pub ended_told : Ended → Told
ended_told Applied = told_alone Done
ended_told Same = told_alone Nothing

-- the value at a key, if there is one; a yes or a no; rows; pending mutations; a cookie; bytes
abbrev pub value_told : Option Bytes → Told
value_told (Some json) = told Done json
value_told None = told_alone Nothing

abbrev pub is_told : Bool → Told
is_told is = told_alone (Is is)

abbrev pub rows_told : List (Bytes × Bytes) → Told
rows_told rs = told Done (array_text (map row_text rs))

abbrev pub pending_told : List Mutation → Told
pending_told ms = told Done (array_text (map pending_row ms))

abbrev pub cookie_told : Cookie → Told
cookie_told c = told Done c.text

abbrev pub bytes_told : Bytes → Told
bytes_told bytes = told Done bytes

-- of a count: how many slots are free for a mutation, how many for a pull that leaves nothing pending, and how many
-- were let go and not given since
abbrev pub free_slots : SlotCounts → List ℕ
free_slots c = c.ordinary_free ∷ (c.ordinary_free + c.reserved_free) ∷ c.retired ∷ []

abbrev pub slots_told : SlotCounts → Told
slots_told c = told Done (array_text (map decimal (free_slots c)))

-- a reply, or its refusal
abbrev pub tells : {X : Type 0} → (X → Told) → Result X Refusal → Told
tells f (Ok x) = f x
tells f (Err e) = told_alone (Refused e)

-- of a poll: the rows, where they are new
abbrev pub polled_told : Polled → Told
polled_told (polled.New rs) = rows_told rs
polled_told polled.Unchanged = told_alone Nothing

-- or what changed
abbrev pub changes_told : List RowChange → Told
changes_told cs = told Done (array_text (map change_text cs))

-- of a mutation: its id
abbrev pub id_told : ℕ → Told
id_told n = told_alone (Number n)

-- of a change: a mutation's id, or how a pull ended
abbrev pub replied_told : Replied → Told
replied_told (replied.id n) = id_told n
replied_told (replied.ended e) = ended_told e
replied_told other = told_alone Done

-- of a run that is asked for: the mutator's name, with the number of its reason
abbrev pub reason_number : Reason → ℕ
reason_number Initial = 0
reason_number Rebase = 1

abbrev pub named_told : Mutation → Told
named_told x = told (Number (reason_number x.reason)) x.name

-- or all of it: the mutation as a push lists it
abbrev pub run_told : Mutation → Told
run_told x = told (Number (reason_number x.reason)) (mutation_text x)

-- memory was refused
abbrev pub dry : Told
dry = told_alone (Refused NoMemory)
