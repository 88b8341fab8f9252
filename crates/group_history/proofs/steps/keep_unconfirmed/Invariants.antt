use Rattle.std.proofs.Common.{◌≡◌, drop, ◌++◌}
use Rattle.group_history.specs.Pulling.{left_pending}
use Rattle.group_history.proofs.steps.keep_unconfirmed.Given as goal

abbrev pub invariant-loop-mutation : goal.invariant-loop-mutation
invariant-loop-mutation l = l.kept.items ++ left_pending l.ids (drop l.mutation-index l.pending)
    ≡ left_pending l.ids l.pending
