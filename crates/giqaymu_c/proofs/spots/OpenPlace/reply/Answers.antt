use Rattle.std.proofs.Common.{rules}
use Rattle.giqaymu_c.proofs.spots.OpenPlace.reply.Goals as goal

pub returns : goal.returns
returns g c = search rules
