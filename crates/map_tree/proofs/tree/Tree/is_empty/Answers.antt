use Rattle.std.proofs.Common.{◌≡◌, Some, IfOk, sym, ap, subst, ◌∙◌, refl}
use Rattle.std.specs.Prelude.{IsSome, option_and_then}
use Rattle.std.specs.FinMap as finite
use Rattle.group_history.specs.Refs.{stamp_of}
use Rattle.map_chunks.specs.Shown.{chunk_rows, shown, map_of_rows}
use Rattle.map_tree.specs.Trees.{root_map, tree_map}
use Rattle.map_chunks.proofs.EmptyLemmas.{none_of-map}
use Rattle.map_chunks.proofs.Shelves.{some_of}
use Rattle.map_chunks.proofs.TreeLemmas.{map_at-rows, map_is}
use Rattle.map_tree.proofs.PlaceLemmas.{placed_may}
use Rattle.map_tree.proofs.tree.Tree.is_empty.Goals as goal

pub is_empty_placed-requires-clause-known : goal.is_empty_placed-requires-clause-known
is_empty_placed-requires-clause-known g c =
    let p = g.C.Chunks.contents c.args.chunks.now in
    let k = stamp_of c.in-Placed.at in
    let s = some_of (tree_map p c.args.self.now) c.requires.map in
    let e : option_and_then map_of_rows (chunk_rows p k)
    ≡ Some s.0 = sym (map_at-rows p k) ∙ ap (root_map p) (sym c.in-Placed.is) ∙ s.1 in
    subst IsSome (sym (map_is (chunk_rows p k) s.0 e).is) refl

pub returns-in-Placed-clause-value : goal.returns-in-Placed-clause-value
returns-in-Placed-clause-value g c m h =
    let p = g.C.Chunks.contents c.args.chunks.now in
    let k = stamp_of c.in-Placed.at in
    let e : option_and_then map_of_rows (chunk_rows p k)
    ≡ Some m = sym (map_at-rows p k) ∙ ap (root_map p) (sym c.in-Placed.is) ∙ h in
    subst (λ x. IfOk c.is_empty_placed.result (λ b. b ≡ x))
    (none_of-map (chunk_rows p k) m e) c.is_empty_placed.ensures.value

pub returns-in-Own-clause-value : goal.returns-in-Own-clause-value
returns-in-Own-clause-value g c m h =
    let p = g.C.Chunks.contents c.args.chunks.now in
    let e : option_and_then map_of_rows (shown p c.in-Own.node.pieces)
    ≡ Some m = ap (root_map p) (sym c.in-Own.is) ∙ h in
    c.is_empty.ensures p (finite.entries m) (map_is (shown p c.in-Own.node.pieces) m e).is

pub is_empty_placed-requires-clause-place : goal.is_empty_placed-requires-clause-place
is_empty_placed-requires-clause-place g c = placed_may
    (g.C.Chunks.places c.args.chunks.now) c.args.self.now.root c.in-Placed.at c.in-Placed.is c.requires.places
