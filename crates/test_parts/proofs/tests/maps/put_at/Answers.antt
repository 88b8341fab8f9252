use Rattle.std.proofs.Common.{map}
use Rattle.std.specs.FinMap as finite
use Rattle.group_history.specs.Map.{Entries}
use Rattle.group_history.specs.Naming.{content_of}
use Rattle.map_tree.specs.Trees.{tree_map}
use Rattle.map_tree.proofs.WriteLemmas.{put_there}
use Rattle.test_parts.proofs.tests.maps.put_at.Goals as goal

pub returns : goal.returns
returns c =
    put_there (tree_map (map content_of c.args.chunks.now.nodes.now) c.args.tree.now)
    (tree_map (map content_of c.put.new.chunks.nodes.now) c.put.new.self)
    (λ (m : Entries). finite.insert m c.args.key.now c.args.value.now) c.requires
    (λ m is. (c.in_ok-put.ensures.put m is).map)
