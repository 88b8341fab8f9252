-- What is replied where a change was made, or wasn't.
use Rattle.std.specs.Prelude.{ℕ, ◌+◌, Option, Result, Ok, Err}
use Rattle.group_history.specs.declared.changes.Change.{Change}
use Rattle.group_history.specs.declared.changes.Change.TheVariants.{Mutated, Pulled, Closed}
use Rattle.group_history.specs.declared.refs.Ref.{Ref}
use Rattle.group_history.specs.declared.refusals.Refusal.{Refusal}
use Rattle.group_history.specs.declared.refusals.Refusal.TheVariants as refusal
use Rattle.group_history.specs.declared.responses.Ended.{Ended}
use Rattle.change_tries.specs.Changing.{ended_as}
use Rattle.change_tries.specs.Missing.{map_ok}
use Rattle.rebase.specs.Replies.{Replied, ended, id}

-- a closing is told as the refusal that it stands for
abbrev pub closing_ended : Result (Option Ref) Refusal → Result Ended Refusal
closing_ended (Ok at) = Err refusal.StateNotFound
closing_ended (Err e) = Err e

abbrev pub reply_made : ℕ → Change → Result (Option Ref) Refusal → Result Replied Refusal
reply_made last (Mutated x) made = map_ok id (map_ok (λ (at : Option Ref). last + 1) made)
reply_made last (Pulled ticket r) made = map_ok ended (map_ok ended_as made)
reply_made last Closed made = map_ok ended (closing_ended made)
