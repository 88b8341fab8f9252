use Rattle.std.proofs.Common.{map, take}
use Rattle.commit_graph.specs.declared.founds.NamedNode.TheVariants as found
use Rattle.commit_graph.specs.Inside.Reach.{Adds}
use Rattle.commit_graph.proofs.looks.add_sure.Given as goal

abbrev pub invariant-loop-place : goal.invariant-loop-place
invariant-loop-place l = Adds l.initial.frontier (map found.Chunk (take l.place l.children)) l.frontier
