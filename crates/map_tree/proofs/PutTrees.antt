-- What a put and an update make of a tree, by what they make of its root.
use Rattle.std.proofs.Common.{◌≡◌, ◌<◌, ℕ, Option, Some, None, inl, refl, sym, ap, ◌∙◌, subst, arith}
use Rattle.std.specs.Prelude.{IsSome, option_and_then}
use Rattle.std.specs.FinMap as finite
use mathlib.Core.List.{IsPrefix}
use Rattle.group_history.specs.declared.mutators.Ran.{Ran}
use Rattle.group_history.specs.declared.mutators.Update.{Update}
use Rattle.group_history.specs.declared.mutators.Update.TheVariants.{Put, Refuse}
use Rattle.group_history.specs.declared.refs.Ref.{Ref}
use Rattle.group_history.specs.Map.{Bytes, Entries}
use Rattle.group_history.specs.Refs.{stamp_of}
use Rattle.group_history.specs.Spelling.{Contents}
use Rattle.group_history.proofs.Lists.{prefix_self, prefix_trans}
use Rattle.map_chunks.proofs.JoinLemmas.{some_is}
use Rattle.map_chunks.proofs.KeptLemmas.{kept-from_none, kept-same}
use Rattle.map_chunks.proofs.TreeLemmas.{map_at-rows, value_of_map}
use Rattle.map_chunks.specs.Shown.{chunk_rows, map_of_rows, shown, Seen}
use Rattle.map_nodes.proofs.LevelLemmas.{changed_as}
use Rattle.map_nodes.proofs.PutLevels.{put_in_as, put_same as as_before}
use Rattle.map_nodes.specs.Levels.{placed_levels, seen_levels, IsRenewed, PutLater, RenewedLater}
use Rattle.map_tree.proofs.LevelCounts.{put_few, replaced_few}
use Rattle.map_nodes.specs.Updating.{IsPutIn, IsPutOn, IsPutOr, IsUpdated}
use Rattle.map_nodes.specs.declared.roots.Updated.{Updated}
use Rattle.map_tree.specs.Puts.{settled, ArePutBeside, IsPut, IsUpdate}
use Rattle.map_tree.specs.Trees.{root_depth, root_levels, root_map, root_places, tree_levels, tree_map, tree_places}
use Rattle.map_tree.specs.Trees.{IsWide}
use Rattle.map_tree.specs.declared.tree.Root.{Root}
use Rattle.map_tree.specs.declared.tree.Root.TheVariants.{Placed, Own}
use Rattle.map_tree.specs.declared.tree.Tree.{Tree}
use Rattle.map_tree.proofs.RootCounts.{placed_as, root_depth_kept, wide_root_grown}
use Rattle.map_tree.proofs.WriteLemmas.{put_map, put_same, root_kept}

-- A TREE WHOSE ROOT IS AN OWN CHUNK

abbrev rooted : Root → Tree
rooted r = record { root = r }

-- what a put makes of the tree, by what it makes of the chunk
pub own_put : (old new : Contents) (places : Ref → Type 0) (t : Tree) (n o : Seen) (m : Entries) (key value : Bytes)
    → t.root ≡ Own n → tree_map old t ≡ Some m → IsPutOn old new places key value n o
    → IsPut old new places t (record { root = Own o }) m key value
own_put old new places t n o m key value e h p =
    subst (λ (w : Tree). IsPut old new places w (rooted (Own o)) m key value) (sym (ap rooted e)) (
    let h' : option_and_then map_of_rows (shown old n.pieces) ≡ Some m = ap (root_map old) (sym e) ∙ h in
    let v = value_of_map (shown old n.pieces) m key h' in
    let levels : (d : ℕ) → Some n.depth ≡ Some d → PutLater d o.depth new (seen_levels n) (seen_levels o) =
    λ d g. subst (λ w. PutLater w o.depth new (seen_levels n) (seen_levels o)) (some_is g) p.levels in
    let kept : (d : ℕ) → Some n.depth ≡ Some d → IsSome (finite.get m key)
    → RenewedLater new d (seen_levels n) (seen_levels o) =
    λ d g f. subst (λ w. RenewedLater new w (seen_levels n) (seen_levels o)) (some_is g)
    (p.kept (subst IsSome (sym v) f)) in
    record {
      map = put_map (shown old n.pieces) (shown new o.pieces) m key value h' p.shown_is;
      few = λ d g. put_few new (rooted (Own n)) (rooted (Own o)) d o.depth (levels d g);
      replaced = λ d g f. replaced_few new (rooted (Own n)) (rooted (Own o)) d (kept d g f);
      levels = λ d g. (o.depth, refl, levels d g);
      kept = kept;
      others = λ other. p.others (λ f. other (sym v ∙ f));
      deep = λ d g. let r = levels d g new (prefix_self new) in (o.depth, refl, r.0, r.1);
      wide = p.wide;
      places_are = p.places_are;
      same = λ f. ap (λ (w : Seen). rooted (Own w)) (p.same (v ∙ f));
    })

-- so an update, which may refuse
pub own_update : (old new : Contents) (places : Ref → Type 0) (t : Tree) (n o : Seen) (m : Entries) (key : Bytes)
    (u : Update) (r : Ran) → t.root ≡ Own n → tree_map old t ≡ Some m → IsPutOr old new places key n o u r
    → IsUpdate old new places t (record { root = Own o }) m key u r
own_update old new places t n o m key (Put value) r e h p = (p.0, own_put old new places t n o m key value e h p.1)
own_update old new places t n o m key (Refuse code) r e h p =
    (p.0, ap (λ (w : Seen). rooted (Own w)) p.1 ∙ sym (ap rooted e))

-- A TREE WHOSE ROOT IS PLACED

-- the map that a placed root spells
pub placed_spells : (old : Contents) (t : Tree) (at : Ref) (m : Entries) → t.root ≡ Placed at → tree_map old t ≡ Some m
    → option_and_then map_of_rows (chunk_rows old (stamp_of at)) ≡ Some m
placed_spells old t at m e h = sym (map_at-rows old (stamp_of at)) ∙ ap (root_map old) (sym e) ∙ h

-- a tree in which a value is there that is put
tree_put : (old new : Contents) (places : Ref → Type 0) (t : Tree) (m : Entries) (key value : Bytes)
    → IsPrefix old new → tree_map old t ≡ Some m → finite.get m key ≡ Some value → IsPut old new places t t m key value
tree_put old new places t m key value g h f = record {
  map = root_kept old new t.root m g h ∙ ap (λ w. Some w) (sym (put_same m key value f));
  few = λ d x. omega arith;
  replaced = λ d x y. omega arith;
  levels = λ d x. (
    d,
    root_depth_kept old new t.root d g x,
    as_before new d d (tree_levels t) (tree_levels t) refl (λ later pre level. inl refl),
  );
  kept = λ d x z later pre level. inl refl;
  others = λ other. absurd (other f);
  deep = λ d x. (d, root_depth_kept old new t.root d g x, omega arith, omega arith);
  wide = wide_root_grown old new t.root m g h;
  places_are = kept-same places (tree_places t);
  same = λ z. refl;
}

-- what a put makes of the tree, by the new chunks, if there are any
pub placed_put : (old new : Contents) (places : Ref → Type 0) (t : Tree) (at : Ref) (root : Option Seen) (m : Entries)
    (key value : Bytes) → IsPrefix old new → t.root ≡ Placed at → tree_map old t ≡ Some m
    → IsPutIn old new places (stamp_of at) key value root
    → IsPut old new places t (settled root (record { root = Placed at })) m key value
placed_put old new places t at None m key value g e h p =
    subst (λ (w : Tree). IsPut old new places t w m key value) (ap rooted e) (tree_put old new places t m key value g h
    (sym (value_of_map (chunk_rows old (stamp_of at)) m key (placed_spells old t at m e h)) ∙ p))
placed_put old new places t at (Some n) m key value g e h p =
    let k = stamp_of at in
    let depth = p.0 in
    let q = p.2 in
    let h' = placed_spells old t at m e h in
    let v = value_of_map (chunk_rows old k) m key h' in
    let deep : (d : ℕ) → root_depth old t.root ≡ Some d → depth ≡ d =
    λ d x. some_is (sym p.1 ∙ ap (root_depth old) (sym e) ∙ x) in
    let levels : (d : ℕ) → root_depth old t.root ≡ Some d → PutLater d n.depth new (tree_levels t) (seen_levels n) =
    λ d x later pre. put_in_as d n.depth (placed_levels later d k) (seen_levels n later) (root_levels t.root later)
    (placed_as old later t.root at d e x (prefix_trans old new later g pre))
    (subst (λ w. PutLater w n.depth new (λ (z : Contents). placed_levels z w k) (seen_levels n)) (deep d x) q.levels
    later pre) in
    let kept : (d : ℕ) → root_depth old t.root ≡ Some d → IsSome (finite.get m key)
    → RenewedLater new d (tree_levels t) (seen_levels n) =
    λ d x f later pre level. changed_as (level < d) IsRenewed (placed_levels later d k level)
    (seen_levels n later level)
    (root_levels t.root later level) (seen_levels n later level)
    (placed_as old later t.root at d e x (prefix_trans old new later g pre) level)
    refl (subst (λ w. RenewedLater new w (λ (z : Contents). placed_levels z w k) (seen_levels n)) (deep d x)
    (q.kept (subst IsSome (sym v) f)) later pre level) in
    record {
      map = put_map (chunk_rows old k) (shown new n.pieces) m key value h' q.shown_is;
      few = λ d x. put_few new t (rooted (Own n)) d n.depth (levels d x);
      replaced = λ d x f. replaced_few new t (rooted (Own n)) d (kept d x f);
      levels = λ d x. (n.depth, refl, levels d x);
      kept = kept;
      others = λ other. subst (λ w. ArePutBeside new key value w (Own n)) (sym e) tt;
      deep = λ d x. let r = levels d x new (prefix_self new) in (n.depth, refl, r.0, r.1);
      wide = λ w. q.wide (subst (IsWide old) e w);
      places_are = kept-from_none places (tree_places t) (root_places (Own n)) q.places_are;
      same = λ f. absurd (q.other (v ∙ f));
    }

-- so an update, which may refuse
pub placed_update : (old new : Contents) (places : Ref → Type 0) (t : Tree) (at : Ref) (m : Entries) (key : Bytes)
    (u : Update) (r : Updated) → IsPrefix old new → t.root ≡ Placed at → tree_map old t ≡ Some m
    → IsUpdated old new places (stamp_of at) key u r
    → IsUpdate old new places t (settled r.root (record { root = Placed at })) m key u r.ran
placed_update old new places t at m key (Put value) r g e h p =
    (p.0, placed_put old new places t at r.root m key value g e h p.1)
placed_update old new places t at m key (Refuse code) r g e h p =
    (p.0, ap (λ w. settled w (rooted (Placed at))) p.1 ∙ sym (ap rooted e))
