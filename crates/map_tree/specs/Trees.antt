-- The map that a tree is.
use Rattle.std.specs.Prelude.{ℕ, List, [], ◌∷◌, Option, Some, None, option_and_then, option_map, unwrap_or}
use Rattle.group_history.specs.declared.refs.Ref.{Ref}
use Rattle.group_history.specs.Map.{Entries}
use Rattle.group_history.specs.Refs.{stamp_of}
use Rattle.group_history.specs.Spelling.{Contents, Segment, segment_at, map_at}
use Rattle.map_chunks.specs.Places.{places_of}
use Rattle.map_chunks.specs.Seeking.{chunk_depth}
use Rattle.map_chunks.specs.Shown.{fresh, shown, map_of_rows}
use Rattle.map_chunks.specs.Wide.{IsWideAt, IsWideChunk}
use Rattle.map_nodes.specs.Levels.{Levels, placed_levels, seen_levels}
use Rattle.map_tree.specs.declared.tree.Root.{Root}
use Rattle.map_tree.specs.declared.tree.Root.TheVariants.{Placed, Own}
use Rattle.map_tree.specs.declared.tree.Tree.{Tree}

-- a placed root, if there is one, in the place of this one
abbrev pub root_or : Option Ref → Root → Root
root_or None root = root
root_or (Some at) root = Placed at

abbrev pub root_map : Contents → Root → Option Entries
root_map contents (Placed at) = map_at contents (stamp_of at)
root_map contents (Own n) = option_and_then map_of_rows (shown contents n.pieces)

-- the map that the stamp of a placed root spells, and of an own root the map of the rows that it shows
abbrev pub tree_map : Contents → Tree → Option Entries
tree_map contents t = root_map contents t.root

abbrev pub root_depth : Contents → Root → Option ℕ
root_depth contents (Placed at) = option_map (λ (s : Segment). s.depth) (segment_at contents (stamp_of at))
root_depth contents (Own n) = Some n.depth

-- how deep the tree is: 1 where its root is a leaf
abbrev pub tree_depth : Contents → Tree → Option ℕ
tree_depth contents t = root_depth contents t.root

-- the placed chunk of a stamp, and what is below it
abbrev pub levels_at : Contents → ℕ → Levels
levels_at contents stamp = placed_levels contents (unwrap_or (chunk_depth contents stamp) 0) stamp

abbrev pub root_levels : Root → Contents → Levels
root_levels (Placed at) contents = levels_at contents (stamp_of at)
root_levels (Own n) contents = seen_levels n contents

-- on each level of the tree, which chunks stand there, in their order
abbrev pub tree_levels : Tree → Contents → Levels
tree_levels t = root_levels t.root

abbrev pub root_fresh : Root → ℕ
root_fresh (Placed at) = 0
root_fresh (Own n) = fresh n

-- how many chunks of the tree aren't placed
abbrev pub tree_fresh : Tree → ℕ
tree_fresh t = root_fresh t.root

abbrev pub IsWide : Contents → Root → Type 0
IsWide contents (Placed at) = IsWideAt contents (stamp_of at)
IsWide contents (Own n) = IsWideChunk n

-- the root isn't an inner chunk with one child: such a root is replaced by the child
abbrev pub HasWideRoot : Contents → Tree → Type 0
HasWideRoot contents t = IsWide contents t.root

abbrev pub placed_root : Root → Option Ref
placed_root (Placed at) = Some at
placed_root (Own n) = None

-- the reference of the root, where it is placed
abbrev pub tree_root : Tree → Option Ref
tree_root t = placed_root t.root

abbrev pub root_places : Root → List Ref
root_places (Placed at) = at ∷ []
root_places (Own n) = places_of n.pieces

-- the placed chunks that a tree names
abbrev pub tree_places : Tree → List Ref
tree_places t = root_places t.root
