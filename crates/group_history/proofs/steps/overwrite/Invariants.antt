use Rattle.std.proofs.Common.{◌≡◌, drop}
use Rattle.group_history.specs.Pulling.{overwritten}
use Rattle.group_history.proofs.steps.overwrite.Given as goal

abbrev pub invariant-loop-change : goal.invariant-loop-change
invariant-loop-change l = overwritten l.after (drop l.change-index l.changes) ≡ overwritten l.fn.ids l.changes
