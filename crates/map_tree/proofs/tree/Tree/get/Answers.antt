use Rattle.std.proofs.Common.{◌≡◌, Some, IfOk, sym, ap, subst, ◌∙◌}
use Rattle.std.specs.Prelude.{option_and_then}
use Rattle.group_history.specs.Refs.{stamp_of}
use Rattle.map_chunks.specs.Shown.{chunk_rows, shown, map_of_rows}
use Rattle.map_tree.specs.Trees.{root_map}
use Rattle.map_chunks.proofs.TreeLemmas.{map_at-rows, value_of_map}
use Rattle.map_tree.proofs.PlaceLemmas.{placed_may, own_may}
use Rattle.map_tree.proofs.tree.Tree.get.Goals as goal

pub returns-in-Placed-clause-value : goal.returns-in-Placed-clause-value
returns-in-Placed-clause-value g c m h =
    let p = g.C.Chunks.contents c.args.chunks.now in
    let k = stamp_of c.in-Placed.at in
    let e : option_and_then map_of_rows (chunk_rows p k)
    ≡ Some m = sym (map_at-rows p k) ∙ ap (root_map p) (sym c.in-Placed.is) ∙ h in
    subst (λ x. IfOk c.get_placed.result (λ v. v ≡ x))
    (value_of_map (chunk_rows p k) m c.args.key.now e) c.get_placed.ensures.value

pub returns-in-Own-clause-value : goal.returns-in-Own-clause-value
returns-in-Own-clause-value g c m h =
    let p = g.C.Chunks.contents c.args.chunks.now in
    let e : option_and_then map_of_rows (shown p c.in-Own.node.pieces)
    ≡ Some m = ap (root_map p) (sym c.in-Own.is) ∙ h in
    subst (λ x. IfOk c.get.result (λ v. v ≡ x))
    (value_of_map (shown p c.in-Own.node.pieces) m c.args.key.now e) c.get.ensures.value

pub get_placed-requires-clause-place : goal.get_placed-requires-clause-place
get_placed-requires-clause-place g c = placed_may
    (g.C.Chunks.places c.args.chunks.now) c.args.self.now.root c.in-Placed.at c.in-Placed.is c.requires.places

pub get-requires-clause-places : goal.get-requires-clause-places
get-requires-clause-places g c = own_may
    (g.C.Chunks.places c.args.chunks.now) c.args.self.now.root c.in-Own.node c.in-Own.is c.requires.places
