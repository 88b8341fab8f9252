use Rattle.map_tree.proofs.BelowLemmas.{tree-ready}
use Rattle.test_parts.proofs.tests.trees.frozen_kinds.Goals as goal

pub freeze-requires : goal.freeze-requires
freeze-requires c = record {
  below = tree-ready c.args.nodes.now c.draft-draft.result c.args.tree
      c.draft-draft.ensures c.requires;
}
