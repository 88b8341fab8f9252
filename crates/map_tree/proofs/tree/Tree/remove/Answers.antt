use Rattle.std.proofs.Common.{◌≡◌, ℕ, ◌∙◌, ap, sym, subst, Some}
use Rattle.std.specs.Prelude.{IsSome}
use Rattle.map_chunks.specs.Places.{AreKept, places_of}
use Rattle.map_tree.specs.Trees.{root_levels, tree_levels, root_places, tree_places, root_map, root_depth, root_or}
use Rattle.map_tree.specs.Trees.{IsWide}
use Rattle.map_chunks.specs.Shown.{shown}
use Rattle.map_tree.specs.declared.tree.Root.{Root}
use Rattle.map_tree.specs.declared.tree.Root.TheVariants.{Own}
use Rattle.map_tree.proofs.DeleteLemmas.{removed_map, removed_levels, removed_places, removed_wide}
use Rattle.map_chunks.proofs.KeptLemmas.{kept-from_none}
use Rattle.group_history.proofs.Lists.{prefix_trans}
use Rattle.group_history.specs.Refs.{stamp_of}
use Rattle.map_nodes.proofs.RemoveLevels.{removed_from}
use Rattle.map_nodes.specs.Levels.{placed_levels, seen_levels, RemovedLater}
use Rattle.map_tree.proofs.RootCounts.{own_depth, placed_as}
use Rattle.map_tree.proofs.PlaceLemmas.{placed_may, own_may}
use Rattle.map_tree.proofs.tree.Tree.remove.Goals as goal

pub returns-in-Own-clause-ok : goal.returns-in-Own-clause-ok
returns-in-Own-clause-ok g c m h =
    let p = g.C.Chunks.contents c.args.chunks.now in
    let q = g.C.Chunks.contents c.remove_root.new.chunks in
    ap (root_map q) c.give_way.ensures
    ∙ removed_map q c.remove_root.new.self c.in_ok-end-in-Own.end (shown p c.in-Own.node.pieces) m c.args.key.now
    (ap (root_map p) (sym c.in-Own.is) ∙ h) c.in_ok-end-in-Own.ensures.done

pub returns-in-Own-clause-levels : goal.returns-in-Own-clause-levels
returns-in-Own-clause-levels g c =
    let q = g.C.Chunks.contents c.remove_root.new.chunks in
    let m = c.in-Own.node in
    let new = root_or c.in_ok-end-in-Own.end (Own c.remove_root.new.self) in
    let top = own_depth (g.C.Chunks.contents c.args.chunks.now) c.args.self.now.root m c.args.depth
    c.in-Own.is c.requires.depth in
    subst (λ (r : Root). (e : ℕ) × (root_depth q r ≡ Some e)
    × RemovedLater c.args.depth e q (tree_levels c.args.self.now) (root_levels r)) (sym c.give_way.ensures)
    (subst (λ (o : Root). (e : ℕ) × (root_depth q new ≡ Some e)
    × RemovedLater c.args.depth e q (root_levels o) (root_levels new)) (sym c.in-Own.is)
    (subst (λ d. (e : ℕ) × (root_depth q new ≡ Some e) × RemovedLater d e q (seen_levels m) (root_levels new)) top
    (removed_levels q m.depth (seen_levels m) c.remove_root.new.self c.in_ok-end-in-Own.end
    c.in_ok-end-in-Own.ensures.levels)))

pub returns-in-Placed-clause-levels : goal.returns-in-Placed-clause-levels
returns-in-Placed-clause-levels g c =
    let p = g.C.Chunks.contents c.args.chunks.now in
    let q = g.C.Chunks.contents c.root_without.new.chunks in
    let at = c.in-Placed.at in
    let new = c.in_ok-self-in-Placed.ensures.levels in (
      new.0,
      new.1,
      removed_from q c.args.depth new.0 (λ r. placed_levels r c.args.depth (stamp_of at))
          (tree_levels c.args.self.now) _
          (λ r pre i. placed_as p r c.args.self.now.root at c.args.depth c.in-Placed.is c.requires.depth
          (prefix_trans p q r c.root_without.ensures.grown.0 pre) i) new.2,
    )

pub returns-in-Own-clause-wide : goal.returns-in-Own-clause-wide
returns-in-Own-clause-wide g c w =
    let q = g.C.Chunks.contents c.remove_root.new.chunks in
    subst (IsWide q) (sym c.give_way.ensures)
    (removed_wide q c.remove_root.new.self c.in_ok-end-in-Own.end
    (c.in_ok-end-in-Own.ensures.wide (subst (IsWide (g.C.Chunks.contents c.args.chunks.now)) c.in-Own.is w)))

pub returns-in-Own-clause-places : goal.returns-in-Own-clause-places
returns-in-Own-clause-places g c =
    let at_q = g.C.Chunks.places c.remove_root.new.chunks in
    let n = c.remove_root.new.self in
    subst (λ (r : Root). AreKept at_q (tree_places c.args.self.now) (root_places r)) (sym c.give_way.ensures)
    (subst (λ (r : Root). AreKept at_q (root_places r) (root_places (root_or c.in_ok-end-in-Own.end (Own n))))
    (sym c.in-Own.is)
    (subst (AreKept at_q (places_of c.in-Own.node.pieces))
    (removed_places n c.in_ok-end-in-Own.end) c.in_ok-end-in-Own.ensures.places))

pub root_without-requires-clause-map : goal.root_without-requires-clause-map
root_without-requires-clause-map g c = subst
    (λ r. IsSome (root_map (g.C.Chunks.contents c.args.chunks.now) r)) c.in-Placed.is c.requires.map

pub root_without-requires-clause-depth : goal.root_without-requires-clause-depth
root_without-requires-clause-depth g c = subst
    (λ r. root_depth (g.C.Chunks.contents c.args.chunks.now) r ≡ Some c.args.depth) c.in-Placed.is c.requires.depth

pub returns-in-Placed-clause-ok : goal.returns-in-Placed-clause-ok
returns-in-Placed-clause-ok g c m h = c.in_ok-self-in-Placed.ensures.ok m
    (ap (root_map (g.C.Chunks.contents c.args.chunks.now)) (sym c.in-Placed.is) ∙ h)

pub returns-in-Placed-clause-wide : goal.returns-in-Placed-clause-wide
returns-in-Placed-clause-wide g c w = c.in_ok-self-in-Placed.ensures.wide
    (subst (IsWide (g.C.Chunks.contents c.args.chunks.now)) c.in-Placed.is w)

pub returns-in-Placed-clause-places : goal.returns-in-Placed-clause-places
returns-in-Placed-clause-places g c =
    kept-from_none (g.C.Chunks.places c.root_without.new.chunks)
    (tree_places c.args.self.now) _ c.in_ok-self-in-Placed.ensures.places

pub remove_root-requires-clause-places : goal.remove_root-requires-clause-places
remove_root-requires-clause-places g c = own_may
    (g.C.Chunks.places c.args.chunks.now) c.args.self.now.root c.in-Own.node c.in-Own.is c.requires.places

pub root_without-requires-clause-place : goal.root_without-requires-clause-place
root_without-requires-clause-place g c = placed_may
    (g.C.Chunks.places c.args.chunks.now) c.args.self.now.root c.in-Placed.at c.in-Placed.is c.requires.places
