use Rattle.linearized.proofs.Holding.{change_laws_hold}
use Rattle.linearized.proofs.laws.change_laws.Goals as goal

pub returns : goal.returns
returns c = change_laws_hold
