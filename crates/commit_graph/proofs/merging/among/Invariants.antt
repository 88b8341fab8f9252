use Rattle.commit_graph.proofs.Leaving.{IsMerge}
use Rattle.commit_graph.proofs.merging.among.Given as goal

abbrev pub invariant-loop-at : goal.invariant-loop-at
invariant-loop-at l = IsMerge l.before l.kept l.left.items l.at-index l.place
