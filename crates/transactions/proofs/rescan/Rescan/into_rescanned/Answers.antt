use Rattle.std.proofs.Common.{ap}
use Rattle.transactions.specs.Rescans.{SoFar}
use Rattle.transactions.proofs.rescan.Rescan.into_rescanned.Goals as goal

pub returns-clause-some : goal.returns-clause-some
returns-clause-some g c = c.in_ok-others.ensures.others c.args.self.rows (ap (λ (f : SoFar). f.rows) c.self.view_is)
