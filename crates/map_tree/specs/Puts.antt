-- What a put and an update make of a tree.
use Rattle.std.specs.Prelude.{◌≡◌, ℕ, ◌+◌, ◌≤◌, Option, Some, None, IsSome}
use Rattle.std.specs.FinMap as finite
use Rattle.group_history.specs.declared.mutators.Ran.{Ran}
use Rattle.group_history.specs.declared.mutators.Ran.TheVariants as ran
use Rattle.group_history.specs.declared.mutators.Update.{Update}
use Rattle.group_history.specs.declared.mutators.Update.TheVariants.{Put, Refuse}
use Rattle.group_history.specs.declared.refs.Ref.{Ref}
use Rattle.group_history.specs.Map.{Bytes, Entries}
use Rattle.group_history.specs.Spelling.{Contents}
use Rattle.map_chunks.specs.Places.{AreKept}
use Rattle.map_chunks.specs.Shown.{Seen}
use Rattle.map_nodes.specs.Levels.{PutLater, RenewedLater}
use Rattle.map_nodes.specs.Others.{ArePutAmong}
use Rattle.map_tree.specs.Trees.{tree_map, tree_depth, tree_fresh, tree_places, tree_levels, HasWideRoot}
use Rattle.map_tree.specs.declared.tree.Root.{Root}
use Rattle.map_tree.specs.declared.tree.Root.TheVariants.{Placed, Own}
use Rattle.map_tree.specs.declared.tree.Tree.{Tree}

-- In the place of one piece of an own root at most stand others, and all other pieces are the same. A placed root is on
-- each way, and new chunks stand in its place.
abbrev pub ArePutBeside : Contents → Bytes → Bytes → Root → Root → Type 0
ArePutBeside contents key value (Placed at) (Placed to) = ⊥
ArePutBeside contents key value (Placed at) (Own o) = Unit {0}
ArePutBeside contents key value (Own n) (Placed to) = ⊥
ArePutBeside contents key value (Own n) (Own o) = ArePutAmong contents key value n.pieces o.pieces

-- A tree that is this map, once a value is put at a key: its map (`map`); on each level the chunks in whose place new
-- ones stand (`levels`; `kept`, where the key is there), and what follows from that: how many are new (`few`;
-- `replaced`), and how deep it is (`deep`); in own chunks the pieces that are the same (`others`); whether its root is
-- wide (`wide`), which placed chunks it names (`places_are`); and that nothing is new where the value is there already
-- (`same`).
pub record IsPut (old new : Contents) (places : Ref → Type 0) (t u : Tree) (m : Entries) (key value : Bytes)
    : Type 0 where
  pub map : tree_map new u ≡ Some (finite.insert m key value)
  pub few : (d : ℕ) → tree_depth old t ≡ Some d → tree_fresh u ≤ tree_fresh t + d + d + 1
  pub replaced : (d : ℕ) → tree_depth old t ≡ Some d → IsSome (finite.get m key) → tree_fresh u ≤ tree_fresh t + d
  pub levels : (d : ℕ) → tree_depth old t ≡ Some d
      → (e : ℕ) × (tree_depth new u ≡ Some e) × PutLater d e new (tree_levels t) (tree_levels u)
  pub kept : (d : ℕ) → tree_depth old t ≡ Some d → IsSome (finite.get m key)
      → RenewedLater new d (tree_levels t) (tree_levels u)
  pub others : (finite.get m key ≡ Some value → ⊥) → ArePutBeside new key value t.root u.root
  pub deep : (d : ℕ) → tree_depth old t ≡ Some d → (e : ℕ) × (tree_depth new u ≡ Some e) × (d ≤ e) × (e ≤ d + 1)
  pub wide : HasWideRoot old t → HasWideRoot new u
  pub places_are : AreKept places (tree_places t) (tree_places u)
  pub same : finite.get m key ≡ Some value → u ≡ t

-- a value is put, or the change refuses and the tree is as it was
abbrev pub IsUpdate : Contents → Contents → (Ref → Type 0) → Tree → Tree → Entries → Bytes → Update → Ran → Type 0
IsUpdate old new places t u m key (Put value) r = (r ≡ ran.Done) × IsPut old new places t u m key value
IsUpdate old new places t u m key (Refuse code) r = (r ≡ ran.Refused code) × (u ≡ t)

-- the tree of new chunks, if there are any, in the place of this one
abbrev pub settled : Option Seen → Tree → Tree
settled None t = t
settled (Some n) t = record { root = Own n }
