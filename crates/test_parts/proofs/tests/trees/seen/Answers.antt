use Rattle.std.proofs.Common.{map}
use Rattle.group_history.specs.Naming.{content_of}
use Rattle.map_tree.proofs.WriteLemmas.{kept_there}
use Rattle.test_parts.proofs.tests.trees.seen.Goals as goal

pub is_empty-requires-clause-map : goal.is_empty-requires-clause-map
is_empty-requires-clause-map c = kept_there (map content_of c.args.chunks.now.nodes.now)
    (map content_of c.depth.new.chunks.nodes.now) c.args.tree.now.root c.depth.ensures.grown.0 c.requires

pub scan-requires-clause-map : goal.scan-requires-clause-map
scan-requires-clause-map c =
    kept_there (map content_of c.depth.new.chunks.nodes.now)
    (map content_of c.is_empty.new.chunks.nodes.now) c.args.tree.now.root c.is_empty.ensures.grown.0
    (kept_there (map content_of c.args.chunks.now.nodes.now)
    (map content_of c.depth.new.chunks.nodes.now) c.args.tree.now.root c.depth.ensures.grown.0 c.requires)
