use Rattle.std.proofs.Common.{[], ◌≡◌, ℕ, Some, ◌∙◌, ap, sym, subst, refl}
use Rattle.std.specs.Prelude.{IsSome}
use Rattle.group_history.specs.Refs.{stamp_of}
use Rattle.group_history.specs.Spelling.{map_at, rows_at}
use Rattle.map_chunks.specs.Places.{AreKept, places_of}
use Rattle.map_tree.specs.Trees.{root_levels, root_places, root_map, root_depth, root_or, IsWide}
use Rattle.map_nodes.specs.Removing.{root_left}
use Rattle.map_chunks.specs.Shown.{shown}
use Rattle.map_tree.specs.declared.tree.Root.{Root}
use Rattle.map_tree.specs.declared.tree.Root.TheVariants.{Own}
use Rattle.map_tree.proofs.DeleteLemmas.{removed_map, removed_levels, removed_places, removed_wide, wide_at-kept}
use Rattle.map_chunks.proofs.KeptLemmas.{kept-grown, kept-trans}
use Rattle.group_history.proofs.Lists.{prefix_trans}
use Rattle.map_nodes.proofs.RemoveLevels.{copied_deep, removed_copied}
use Rattle.map_nodes.specs.Levels.{placed_levels, seen_levels, AreRemovedIn, RemovedLater}
use Rattle.map_tree.proofs.RootCounts.{placed_rows}
use Rattle.map_chunks.proofs.Shelves.{some_of}
use Rattle.map_chunks.proofs.TreeLemmas.{map_from}
use Rattle.map_tree.proofs.WriteLemmas.{placed_map, entries_tree}
use Rattle.map_nodes.proofs.PlaceLemmas.{new_may}
use Rattle.map_chunks.proofs.KeptLemmas.{grows_on}
use Rattle.map_tree.proofs.tree.deleting.root_without.Goals as goal

pub copied-requires-clause-known : goal.copied-requires-clause-known
copied-requires-clause-known g c =
    let p = g.C.Chunks.contents c.args.chunks.now in
    let s = some_of (map_at p (stamp_of c.args.at)) c.requires.map in
    subst IsSome (sym (placed_rows p c.args.at s.0 c.args.depth s.1 c.requires.depth)) refl

pub remove_root-requires-clause-tree : goal.remove_root-requires-clause-tree
remove_root-requires-clause-tree g c =
    let p = g.C.Chunks.contents c.args.chunks.now in
    let s = some_of (map_at p (stamp_of c.args.at)) c.requires.map in
    entries_tree (shown (g.C.Chunks.contents c.copied.new.chunks) c.in_ok-node.node.pieces) s.0
    (c.in_ok-node.ensures.rows ∙ placed_rows p c.args.at s.0 c.args.depth s.1 c.requires.depth)

pub returns-clause-ok : goal.returns-clause-ok
returns-clause-ok g c m h =
    let q = g.C.Chunks.contents c.remove_root.new.chunks in
    let x = shown (g.C.Chunks.contents c.copied.new.chunks) c.in_ok-node.node.pieces in
    ap (root_map q) c.give_way.ensures
    ∙ removed_map q c.remove_root.new.self c.in_ok-end.end x m c.args.key.now
    (map_from x m (c.in_ok-node.ensures.rows ∙ placed_rows
    (g.C.Chunks.contents c.args.chunks.now) c.args.at m c.args.depth h c.requires.depth))
    c.in_ok-end.ensures.done

pub returns-clause-levels : goal.returns-clause-levels
returns-clause-levels g c =
    let q = g.C.Chunks.contents c.remove_root.new.chunks in
    let k = stamp_of c.args.at in
    let n = c.remove_root.new.self in
    let m = c.in_ok-node.node in
    let left = removed_levels q m.depth (seen_levels m) n c.in_ok-end.end c.in_ok-end.ensures.levels in
    let deep : m.depth ≡ c.args.depth = c.in_ok-node.ensures.depth in
    let p = g.C.Chunks.contents c.args.chunks.now in
    let s = some_of (map_at p k) c.requires.map in
    let some = copied_deep p c.args.depth k (entries_tree (rows_at p c.args.depth k) s.0
    (placed_rows p c.args.at s.0 c.args.depth s.1 c.requires.depth)) in
    subst (λ (r : Root). (e : ℕ) × (root_depth q r ≡ Some e)
    × RemovedLater c.args.depth e q (λ p. placed_levels p c.args.depth k) (root_levels r)) (sym c.give_way.ensures) (
      left.0,
      left.1,
      λ later pre. removed_copied c.args.depth left.0 (placed_levels later c.args.depth k) (seen_levels m later)
          (root_levels (root_or c.in_ok-end.end (Own n)) later) some
          (c.in_ok-node.ensures.levels later
          (prefix_trans (g.C.Chunks.contents c.copied.new.chunks) q later c.remove_root.ensures.grown.0 pre))
          (subst (λ d. AreRemovedIn d left.0 (seen_levels m later)
          (root_levels (root_or c.in_ok-end.end (Own n)) later)) deep (left.2 later pre)),
    )

pub returns-clause-wide : goal.returns-clause-wide
returns-clause-wide g c w =
    let p = g.C.Chunks.contents c.args.chunks.now in
    let q = g.C.Chunks.contents c.remove_root.new.chunks in
    let k = stamp_of c.args.at in
    let s = some_of (map_at p k) c.requires.map in
    let sp = placed_map p k s.0 s.1 in
    let later = wide_at-kept p (g.C.Chunks.contents c.copied.new.chunks) k sp.segment
    c.copied.ensures.grown.0 sp.is w in
    subst (IsWide q) (sym c.give_way.ensures)
    (removed_wide q c.remove_root.new.self c.in_ok-end.end
    (c.in_ok-end.ensures.wide (c.in_ok-node.ensures.wide later)))

pub returns-clause-places : goal.returns-clause-places
returns-clause-places g c =
    let at_p = g.C.Chunks.places c.copied.new.chunks in
    let at_q = g.C.Chunks.places c.remove_root.new.chunks in
    let mid = places_of c.in_ok-node.node.pieces in
    let n = c.remove_root.new.self in
    subst (λ (r : Root). AreKept at_q [] (root_places r)) (sym c.give_way.ensures)
    (subst (AreKept at_q []) (removed_places n c.in_ok-end.end)
    (kept-trans at_q [] mid (root_left n c.in_ok-end.end)
    (kept-grown at_p at_q [] mid c.remove_root.ensures.grown.1 c.in_ok-node.ensures.places)
    c.in_ok-end.ensures.places))

pub remove_root-requires-clause-places : goal.remove_root-requires-clause-places
remove_root-requires-clause-places g c = new_may (g.C.Chunks.places c.copied.new.chunks)
    (places_of c.in_ok-node.node.pieces) c.in_ok-node.ensures.places

pub returns-clause-grown : goal.returns-clause-grown
returns-clause-grown g c =
    grows_on g.C.Chunks.contents g.C.Chunks.places _ _ _
    c.copied.ensures.grown c.remove_root.ensures.grown

pub returns-in_err-end-clause-grown : goal.returns-in_err-end-clause-grown
returns-in_err-end-clause-grown g c =
    grows_on g.C.Chunks.contents g.C.Chunks.places _ _ _
    c.copied.ensures.grown c.remove_root.ensures.grown
