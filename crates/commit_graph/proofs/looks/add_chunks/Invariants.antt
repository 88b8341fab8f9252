use Rattle.std.proofs.Common.{map, take}
use Rattle.commit_graph.specs.Inside.Reach.{Adds}
use Rattle.commit_graph.specs.declared.founds.NamedNode.TheVariants as found
use Rattle.commit_graph.proofs.looks.add_chunks.Given as goal

abbrev pub invariant-loop-root : goal.invariant-loop-root
invariant-loop-root l = Adds l.initial.frontier (map found.Chunk (take l.root-index l.roots)) l.frontier
