-- What a removal makes of a tree.
use Rattle.std.specs.Prelude.{◌≡◌, ℕ, Some}
use Rattle.group_history.specs.Spelling.{Contents}
use Rattle.map_nodes.specs.Levels.{RemovedLater}
use Rattle.map_tree.specs.Trees.{tree_depth, tree_levels}
use Rattle.map_tree.specs.declared.tree.Tree.{Tree}

-- On each level one chunk at most is changed, the one on the way to the key, and all others are the same, placed ones
-- under their stamps. How many are new, and how deep the tree is, follows from that.
abbrev pub IsDel : Contents → Contents → Tree → Tree → Type 0
IsDel old new t u = (d : ℕ) → tree_depth old t ≡ Some d
    → (e : ℕ) × (tree_depth new u ≡ Some e) × RemovedLater d e new (tree_levels t) (tree_levels u)
