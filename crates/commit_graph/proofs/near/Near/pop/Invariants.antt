use Rattle.std.proofs.Common.{◌≡◌, length}
use Rattle.commit_graph.specs.Inside.Reach.{StandFrom, row_nodes}
use Rattle.commit_graph.proofs.near.Near.pop.Given as goal

abbrev pub invariant-loop-last : goal.invariant-loop-last
invariant-loop-last l = (l.self-inside.low ≡ l.initial.self-inside.low)
    × StandFrom l.self-inside.low l.self-inside.row.items
    × (row_nodes l.self-inside.row.items ≡ row_nodes l.initial.self-inside.row.items)

abbrev pub decreases-loop-last : goal.decreases-loop-last
decreases-loop-last l = length l.self-inside.row.items
