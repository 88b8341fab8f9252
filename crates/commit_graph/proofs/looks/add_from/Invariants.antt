use Rattle.std.proofs.Common.{◌≤◌, ◌-◌, drop, map, take}
use Rattle.commit_graph.specs.declared.founds.NamedNode.TheVariants as found
use Rattle.commit_graph.specs.Inside.Reach.{Adds}
use Rattle.commit_graph.proofs.looks.add_from.Given as goal

abbrev pub invariant-loop-place : goal.invariant-loop-place
invariant-loop-place l = Adds l.initial.frontier
    (take (l.place - l.from) (drop l.from (map found.Chunk l.children))) l.frontier × (l.from ≤ l.place)
