use Rattle.std.proofs.Common.{map}
use Rattle.group_history.specs.Naming.{content_of}
use Rattle.map_tree.proofs.WriteLemmas.{kept_there}
use Rattle.test_parts.proofs.tests.trees.shape.Goals as goal

pub frozen_kinds-requires : goal.frozen_kinds-requires
frozen_kinds-requires c = kept_there (map content_of c.grown.new.chunks.nodes.now)
    (map content_of c.depth.new.chunks.nodes.now) c.in_ok-tree.tree.root c.depth.ensures.grown.0 c.in_ok-tree.ensures
