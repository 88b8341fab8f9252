use Rattle.std.proofs.Common.{take}
use Rattle.std.specs.List.{Contains}
use Rattle.commit_graph.specs.Inside.Reach.{Notes}
use Rattle.commit_graph.specs.Reach.{stamps_of}
use Rattle.commit_graph.proofs.beside.note_all.Given as goal

abbrev pub invariant-loop-child : goal.invariant-loop-child
invariant-loop-child l = Notes (Contains (stamps_of (take l.child-index l.children))) l.initial.frontier l.frontier
