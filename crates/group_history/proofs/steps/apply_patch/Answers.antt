use Rattle.std.proofs.Common.{arith}
use Rattle.std.proofs.lemmas.Grind.{common_steps}
use Rattle.group_history.proofs.steps.apply_patch.Goals as goal

pub loop-op-preserved : goal.loop-op-preserved
loop-op-preserved c = grind (arith, common_steps)
