-- What is right to answer where a pull is ended with the bytes of a response, and which refusals pass.
use Rattle.std.specs.Prelude.{Bool, true, false, Option, Some, None, Result, Ok, Err}
use Rattle.group_history.specs.declared.changes.Change.{Change}
use Rattle.group_history.specs.declared.changes.Change.TheVariants.{Pulled, Closed}
use Rattle.group_history.specs.declared.refusals.Refusal.{Refusal}
use Rattle.group_history.specs.declared.refusals.Refusal.TheVariants as refusal
use Rattle.group_history.specs.declared.responses.Ended.{Ended}
use Rattle.group_history.specs.declared.responses.Response.{Response}
use Rattle.group_history.specs.declared.responses.Response.TheVariants as response
use Rattle.group_history.specs.Answers.{◌>>=◌}
use Rattle.group_history.specs.Cookies.{Cookie}
use Rattle.group_history.specs.Map.{Bytes}
use Rattle.group_history.specs.Pulling.{end_reply}
use Rattle.group_history.specs.State.{State}
use Rattle.pull_patch.specs.Grammar.{answer_to}

-- The bytes are read, and then the pull is ended.
abbrev pub end_bytes_reply : State → Bytes → Bytes → Result Ended Refusal
end_bytes_reply s ticket bytes = answer_to bytes >>= end_reply s ticket

-- the change that it asks for
abbrev pub change_wanted : Cookie → Result Response Refusal → Option Change
change_wanted ticket (Ok (response.Ok r)) = Some (Pulled ticket r)
change_wanted ticket (Ok response.StateNotFound) = Some Closed
change_wanted ticket (Ok (response.VersionNotSupported kind)) = None
change_wanted ticket (Err e) = None

-- Others were in the way: the same call may be answered when it is made again.
abbrev pub is_passing : {X : Type 0} → Result X Refusal → Bool
is_passing (Err refusal.Moved) = true
is_passing (Err refusal.Busy) = true
is_passing (Err refusal.Gone) = true
is_passing reply = false
