use Rattle.std.proofs.Common.{map}
use Rattle.std.specs.Prelude.{IsSome}
use Rattle.group_history.specs.Naming.{content_of}
use Rattle.map_tree.specs.Trees.{tree_map}
use Rattle.test_parts.proofs.tests.maps.grown.Given as goal

abbrev pub invariant-loop-before : goal.invariant-loop-before
invariant-loop-before l = IsSome (tree_map (map content_of l.chunks.nodes.now) l.tree)
