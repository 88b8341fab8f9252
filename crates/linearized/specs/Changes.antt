-- The change that a reply stands for, in the words of the record.
use Rattle.std.specs.Prelude.{ℕ, Option, Some, None, Result, Ok, Err}
use Rattle.group_history.specs.declared.changes.Change.{Change}
use Rattle.group_history.specs.declared.changes.Change.TheVariants.{Mutated, Pulled, Closed}
use Rattle.group_history.specs.declared.mutations.MutationFields.{MutationFields as Mutation}
use Rattle.group_history.specs.declared.refusals.Refusal.{Refusal}
use Rattle.group_history.specs.declared.refusals.Refusal.TheVariants as refusal
use Rattle.group_history.specs.declared.responses.Ended.{Ended}
use Rattle.group_history.specs.declared.responses.Ended.TheVariants as ended
use Rattle.group_history.specs.declared.responses.Response.{Response}
use Rattle.group_history.specs.declared.responses.Response.TheVariants as response
use Rattle.group_history.specs.Cookies.{Cookie}
use Rattle.group_history.specs.Pull.{Pull}
use Rattle.group_history.specs.Record.{after_change}
use Rattle.group_history.specs.State.{State}

-- of a mutation: an id stands for the mutation, a refusal for no change
abbrev pub change_made : Mutation → Result ℕ Refusal → Option Change
change_made x (Ok id) = Some (Mutated x)
change_made x (Err e) = None

-- of an end of a pull, by a response without an error: only Applied stands for a change, the pull with its ticket
abbrev pub change_applied : Cookie → Pull → Result Ended Refusal → Option Change
change_applied ticket r (Ok ended.Applied) = Some (Pulled ticket r)
change_applied ticket r (Ok ended.Same) = None
change_applied ticket r (Err e) = None

-- by the response that the server does not know the group: the refusal that says so stands for the closing
abbrev pub change_closing : Result Ended Refusal → Option Change
change_closing (Err refusal.StateNotFound) = Some Closed
change_closing reply = None

-- by any response
abbrev pub change_ended : Cookie → Response → Result Ended Refusal → Option Change
change_ended ticket (response.Ok r) reply = change_applied ticket r reply
change_ended ticket response.StateNotFound reply = change_closing reply
change_ended ticket (response.VersionNotSupported kind) reply = None

-- by what the bytes of a response are read as: bytes that are none change nothing
abbrev pub change_read : Cookie → Result Response Refusal → Result Ended Refusal → Option Change
change_read ticket (Ok r) reply = change_ended ticket r reply
change_read ticket (Err e) reply = None

-- the state after a change, where there is one
abbrev pub after_made : State → Option Change → State
after_made s None = s
after_made s (Some c) = after_change s c
