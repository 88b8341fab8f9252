use Rattle.std.proofs.Common.{take}
use Rattle.commit_graph.specs.Inside.Gaps.{IsTops}
use Rattle.commit_graph.proofs.gaps.tops_of.Given as goal

abbrev pub invariant-loop-child : goal.invariant-loop-child
invariant-loop-child l = IsTops (take l.child-index l.children) l.tops
