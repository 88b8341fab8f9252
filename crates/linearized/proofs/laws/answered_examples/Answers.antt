use Rattle.linearized.proofs.Worked.{worked}
use Rattle.linearized.proofs.laws.answered_examples.Goals as goal

pub returns : goal.returns
returns c = worked
