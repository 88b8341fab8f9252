-- The places that a tree names, by its root.
use Rattle.std.proofs.Common.{◌≡◌, subst}
use Rattle.group_history.specs.declared.refs.Ref.{Ref}
use Rattle.group_history.proofs.Lists.{one_here}
use Rattle.map_chunks.specs.Places.{AreAll, places_of}
use Rattle.map_chunks.specs.Shown.{Seen}
use Rattle.map_tree.specs.Trees.{root_places}
use Rattle.map_tree.specs.declared.tree.Root.{Root}
use Rattle.map_tree.specs.declared.tree.Root.TheVariants.{Placed, Own}

pub placed_may : (may : Ref → Type 0) (root : Root) (at : Ref) → root ≡ Placed at
    → AreAll may (root_places root) → may at
placed_may may root at e all = subst (λ (r : Root). AreAll may (root_places r)) e all at (one_here at)

pub own_may : (may : Ref → Type 0) (root : Root) (n : Seen) → root ≡ Own n → AreAll may (root_places root)
    → AreAll may (places_of n.pieces)
own_may may root n e all = subst (λ (r : Root). AreAll may (root_places r)) e all
