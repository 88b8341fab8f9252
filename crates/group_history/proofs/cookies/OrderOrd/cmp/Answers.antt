use Rattle.std.proofs.Common.{rules}
use Rattle.group_history.proofs.cookies.OrderOrd.cmp.Goals as goal

pub returns-in-Number-Text : goal.returns-in-Number-Text
returns-in-Number-Text c = search rules
