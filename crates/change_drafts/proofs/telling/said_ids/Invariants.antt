use Rattle.std.proofs.Common.{◌≡◌, ◌++◌, map, length}
use Rattle.group_history.specs.Pulling.{overwritten}
use Rattle.group_history.specs.Spelling.{said_id}
use Rattle.group_history.specs.State.{Ids}
use Rattle.change_drafts.proofs.telling.said_ids.Given as goal

-- what is noted, and what those say that are left, comes to what all say
abbrev pub invariant-loop-mutation : goal.invariant-loop-mutation
invariant-loop-mutation l = (ids : Ids)
    → overwritten ids (l.said.items ++ map said_id l.left) ≡ overwritten ids (map said_id l.mutations)

abbrev pub decreases-loop-mutation : goal.decreases-loop-mutation
decreases-loop-mutation l = length l.left
