use Rattle.std.proofs.Common.{◌∙◌, ap, sym, subst, Some, refl}
use Rattle.std.specs.Prelude.{IsSome, option_map}
use Rattle.group_history.specs.Refs.{stamp_of}
use Rattle.group_history.specs.Spelling.{Segment}
use Rattle.map_tree.specs.Trees.{root_map, root_depth, tree_map}
use Rattle.map_chunks.proofs.Shelves.{some_of}
use Rattle.map_tree.proofs.WriteLemmas.{placed_map, depth_is}
use Rattle.map_tree.proofs.PlaceLemmas.{placed_may}
use Rattle.map_tree.proofs.tree.Tree.depth.Goals as goal

pub depth_placed-requires-clause-known : goal.depth_placed-requires-clause-known
depth_placed-requires-clause-known g c =
    let p = g.C.Chunks.contents c.args.chunks.now in
    let s = some_of (tree_map p c.args.self.now) c.requires.map in
    let sp = placed_map p (stamp_of c.in-Placed.at) s.0 (ap (root_map p) (sym c.in-Placed.is) ∙ s.1) in
    subst IsSome (sym sp.is) refl

pub returns-in-Placed-clause-depth : goal.returns-in-Placed-clause-depth
returns-in-Placed-clause-depth g c =
    let p = g.C.Chunks.contents c.args.chunks.now in
    let s = some_of (tree_map p c.args.self.now) c.requires.map in
    let sp = placed_map p (stamp_of c.in-Placed.at) s.0 (ap (root_map p) (sym c.in-Placed.is) ∙ s.1) in
    depth_is c.depth_placed.result (root_depth p c.args.self.now.root) sp.segment.depth
    (ap (root_depth p) c.in-Placed.is ∙ ap (option_map (λ (s : Segment). s.depth)) sp.is)
    (c.depth_placed.ensures.depth sp.segment sp.is)

pub returns-in-Own-clause-depth : goal.returns-in-Own-clause-depth
returns-in-Own-clause-depth g c = ap (root_depth (g.C.Chunks.contents c.args.chunks.now)) c.in-Own.is ∙ ap (λ n. Some n)
    (sym c.depth.ensures)

pub depth_placed-requires-clause-place : goal.depth_placed-requires-clause-place
depth_placed-requires-clause-place g c = placed_may
    (g.C.Chunks.places c.args.chunks.now) c.args.self.now.root c.in-Placed.at c.in-Placed.is c.requires.places
