use Rattle.std.proofs.Common.{arith}
use Rattle.std.proofs.lemmas.Grind.{common_steps}
use Rattle.group_history.proofs.steps.keep_unconfirmed.Goals as goal

pub loop-mutation-preserved : goal.loop-mutation-preserved
loop-mutation-preserved c = grind (arith, common_steps)
