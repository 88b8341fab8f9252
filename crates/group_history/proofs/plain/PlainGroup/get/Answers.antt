use Rattle.std.proofs.Common.{rules}
use Rattle.group_history.proofs.plain.PlainGroup.get.Goals as goal

pub returns : goal.returns
returns g c = search rules
