use Rattle.std.proofs.Common.{◌∙◌, ap, inl, refl, subst, sym, Some, arith}
use Rattle.map_nodes.proofs.RemoveLevels.{removed_low, still_root}
use Rattle.map_nodes.specs.Levels.{RemovedLater}
use Rattle.std.specs.FinMap as finite
use Rattle.map_tree.specs.Trees.{tree_levels, tree_map}
use Rattle.map_chunks.proofs.AnswerLemmas.{on_ok}
use Rattle.map_chunks.proofs.JoinLemmas.{some_is}
use Rattle.map_tree.proofs.DeleteLemmas.{not_there}
use Rattle.map_tree.proofs.LevelCounts.{removed_few}
use Rattle.map_nodes.proofs.RemoveLemmas.{removed_same}
use Rattle.map_tree.proofs.RootCounts.{root_depth_kept, wide_root_grown}
use Rattle.map_chunks.proofs.Shelves.{some_of}
use Rattle.map_tree.proofs.WriteLemmas.{kept_there, root_kept}
use Rattle.map_chunks.proofs.KeptLemmas.{all_on}
use Rattle.map_chunks.proofs.KeptLemmas.{grows_on}
use Rattle.map_tree.proofs.tree.Tree.del.Goals as goal

pub remove-requires-clause-map : goal.remove-requires-clause-map
remove-requires-clause-map g c = kept_there (g.C.Chunks.contents c.args.chunks.now)
    (g.C.Chunks.contents c.sought.new.chunks) c.args.self.now.root c.sought.ensures.grown.0 c.requires.map

pub remove-requires-clause-depth : goal.remove-requires-clause-depth
remove-requires-clause-depth g c =
    root_depth_kept (g.C.Chunks.contents c.args.chunks.now)
    (g.C.Chunks.contents c.sought.new.chunks) c.args.self.now.root c.in_ok-sought.sought.depth
    c.sought.ensures.grown.0 c.in_ok-sought.ensures.depth

pub returns-then-sought-clause-ok : goal.returns-then-sought-clause-ok
returns-then-sought-clause-ok g c m h =
    c.remove.ensures.ok m (root_kept (g.C.Chunks.contents c.args.chunks.now)
    (g.C.Chunks.contents c.sought.new.chunks) c.args.self.now.root m c.sought.ensures.grown.0 h)

pub returns-then-sought-clause-few : goal.returns-then-sought-clause-few
returns-then-sought-clause-few g c d e =
    let q = g.C.Chunks.contents c.remove.new.chunks in
    let same = some_is (sym c.in_ok-sought.ensures.depth ∙ e) in
    on_ok c.remove.result c.remove.ensures.levels (λ n. omega (
      arith,
      same,
      removed_few q c.args.self.now c.remove.new.self _ n.0 n.2,
    ))

pub returns-then-sought-clause-levels : goal.returns-then-sought-clause-levels
returns-then-sought-clause-levels g c =
    let q = g.C.Chunks.contents c.remove.new.chunks in
    let now = c.remove.new.self in
    on_ok c.remove.result c.remove.ensures.levels (λ n d t. (
      n.0,
      n.1,
      subst (λ w. RemovedLater w n.0 q (tree_levels c.args.self.now) (tree_levels now))
          (some_is (sym c.in_ok-sought.ensures.depth ∙ t)) n.2,
    ))

pub returns-clause-levels : goal.returns-clause-levels
returns-clause-levels g c d t =
    let q = g.C.Chunks.contents c.sought.new.chunks in
    let tree = c.args.self.now in (
      d,
      root_depth_kept (g.C.Chunks.contents c.args.chunks.now) q tree.root d c.sought.ensures.grown.0 t,
      still_root q d (tree_levels tree) (tree_levels tree) (λ later pre level. inl refl),
    )

pub returns-then-sought-clause-deep : goal.returns-then-sought-clause-deep
returns-then-sought-clause-deep g c d t =
    let q = g.C.Chunks.contents c.remove.new.chunks in
    let e = some_is (sym c.in_ok-sought.ensures.depth ∙ t) in
    on_ok c.remove.result c.remove.ensures.levels (λ n. (
      n.0,
      n.1,
      omega (arith, e, removed_low q _ n.0 (tree_levels c.args.self.now) (tree_levels c.remove.new.self) n.2),
    ))

pub returns-clause-deep : goal.returns-clause-deep
returns-clause-deep g c d t = (
  d,
  root_depth_kept (g.C.Chunks.contents c.args.chunks.now)
      (g.C.Chunks.contents c.sought.new.chunks) c.args.self.now.root d c.sought.ensures.grown.0 t,
  omega arith,
)

pub returns-then-sought-clause-wide : goal.returns-then-sought-clause-wide
returns-then-sought-clause-wide g c w =
    let s = some_of (tree_map (g.C.Chunks.contents c.args.chunks.now) c.args.self.now) c.requires.map in
    c.remove.ensures.wide (wide_root_grown (g.C.Chunks.contents c.args.chunks.now)
    (g.C.Chunks.contents c.sought.new.chunks) c.args.self.now.root s.0 c.sought.ensures.grown.0 s.1 w)

pub returns-clause-ok : goal.returns-clause-ok
returns-clause-ok g c m h =
    root_kept (g.C.Chunks.contents c.args.chunks.now)
    (g.C.Chunks.contents c.sought.new.chunks) c.args.self.now.root m c.sought.ensures.grown.0 h
    ∙ ap (λ w. Some w) (sym (removed_same m c.args.key.now (not_there c.in_ok-sought.sought.is_there
    (finite.get m c.args.key.now) (c.in_ok-sought.ensures.is_there m h) c.if-sought.false)))

pub returns-clause-wide : goal.returns-clause-wide
returns-clause-wide g c w =
    let s = some_of (tree_map (g.C.Chunks.contents c.args.chunks.now) c.args.self.now) c.requires.map in
    wide_root_grown (g.C.Chunks.contents c.args.chunks.now)
    (g.C.Chunks.contents c.sought.new.chunks) c.args.self.now.root s.0 c.sought.ensures.grown.0 s.1 w

pub remove-requires-clause-places : goal.remove-requires-clause-places
remove-requires-clause-places g c = all_on (g.C.Chunks.places c.args.chunks.now)
    (g.C.Chunks.places c.sought.new.chunks) _ c.sought.ensures.grown.1 c.requires.places

pub returns-then-sought-clause-grown : goal.returns-then-sought-clause-grown
returns-then-sought-clause-grown g c =
    grows_on g.C.Chunks.contents g.C.Chunks.places _ _ _
    c.sought.ensures.grown c.remove.ensures.grown
