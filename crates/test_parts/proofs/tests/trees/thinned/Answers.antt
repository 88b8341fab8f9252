use Rattle.std.proofs.Common.{map}
use Rattle.std.specs.FinMap as finite
use Rattle.group_history.specs.Map.{Entries}
use Rattle.group_history.specs.Naming.{content_of}
use Rattle.map_tree.specs.Trees.{tree_map}
use Rattle.map_tree.proofs.WriteLemmas.{put_there}
use Rattle.test_parts.proofs.tests.trees.thinned.Goals as goal

pub loop-number-preserved : goal.loop-number-preserved
loop-number-preserved c =
    put_there (tree_map (map content_of c.loop-number.chunks.nodes.now) c.loop-number.tree)
    (tree_map (map content_of c.del.new.chunks.nodes.now) c.del.new.self)
    (λ (m : Entries). finite.remove m c.as_str.result.now) c.loop-number.invariant c.in_ok-del.ensures.ok
