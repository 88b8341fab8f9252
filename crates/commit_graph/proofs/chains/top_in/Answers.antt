use Rattle.std.proofs.Common.{rules}
use Rattle.commit_graph.proofs.chains.top_in.Goals as goal

pub returns-in-Closed : goal.returns-in-Closed
returns-in-Closed c = search rules
