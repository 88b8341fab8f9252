use Rattle.linearized.proofs.AtOnce.{at_once}
use Rattle.linearized.proofs.laws.at_once.Goals as goal

pub returns : goal.returns
returns c means = at_once means
