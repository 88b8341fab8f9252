use Rattle.std.proofs.Common.{rules}
use Rattle.group_history.proofs.plain.PlainGroup.last.Goals as goal

pub returns : goal.returns
returns g c = search rules
