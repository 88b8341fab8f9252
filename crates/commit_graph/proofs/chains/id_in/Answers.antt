use Rattle.std.proofs.Common.{rules}
use Rattle.commit_graph.proofs.chains.id_in.Goals as goal

pub returns-else-eq : goal.returns-else-eq
returns-else-eq c = search rules
