-- The map that a tree shows.
use Rattle.std.specs.Prelude.{List, Option, Some, None}
use Rattle.std.specs.Coded.{Π_prop, →_prop}
use Rattle.std.specs.FinMap as finite
use Rattle.group_history.specs.Map.{Entries}
use Rattle.group_history.specs.Spelling.{Contents}
use Rattle.group_history.specs.declared.refs.Ref.{Ref}
use Rattle.map_chunks.specs.Places.{AreAll}
use Rattle.map_tree.specs.Trees.{tree_map}
use Rattle.map_tree.specs.declared.tree.Tree.{Tree}

-- the map, or the empty one where there is none
abbrev pub map_or : Option Entries → Entries
map_or None = finite.empty
map_or (Some m) = m

-- the map that a tree is, given what is placed
abbrev pub shown_map : Contents → Tree → Entries
shown_map contents t = map_or (tree_map contents t)

-- what holds of each of these references in one way at most does so of all
pub all_prop : (places : Ref → Type 0) (ats : List Ref) → ((at : Ref) → IsProp (places at)) → IsProp (AreAll places ats)
all_prop places ats one = Π_prop (λ at. →_prop (one at))
