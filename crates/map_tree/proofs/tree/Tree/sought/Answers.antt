use Rattle.std.proofs.Common.{◌≡◌, Some, is_some, sym, ap, ◌∙◌}
use Rattle.std.specs.Prelude.{option_and_then}
use Rattle.group_history.specs.Refs.{stamp_of}
use Rattle.map_chunks.specs.Shown.{chunk_rows, shown, map_of_rows}
use Rattle.map_tree.specs.Trees.{root_map, root_depth}
use Rattle.map_chunks.proofs.AnswerLemmas.{if_ok_so}
use Rattle.map_chunks.proofs.TreeLemmas.{map_at-rows, value_of_map}
use Rattle.map_tree.proofs.PlaceLemmas.{placed_may, own_may}
use Rattle.map_tree.proofs.tree.Tree.sought.Goals as goal

pub returns-in-Placed-clause-is_there : goal.returns-in-Placed-clause-is_there
returns-in-Placed-clause-is_there g c m h =
    let p = g.C.Chunks.contents c.args.chunks.now in
    let k = stamp_of c.in-Placed.at in
    let e : option_and_then map_of_rows (chunk_rows p k)
    ≡ Some m = sym (map_at-rows p k) ∙ ap (root_map p) (sym c.in-Placed.is) ∙ h in
    if_ok_so c.seek_placed.result c.seek_placed.ensures.is_there
    (λ s f. f ∙ ap is_some (value_of_map (chunk_rows p k) m c.args.key.now e))

pub returns-in-Placed-clause-depth : goal.returns-in-Placed-clause-depth
returns-in-Placed-clause-depth g c = if_ok_so c.seek_placed.result c.seek_placed.ensures.depth
    (λ s f. ap (root_depth (g.C.Chunks.contents c.args.chunks.now)) c.in-Placed.is ∙ f)

pub returns-in_ok-is_there-in-Own-clause-is_there : goal.returns-in_ok-is_there-in-Own-clause-is_there
returns-in_ok-is_there-in-Own-clause-is_there g c m h =
    let p = g.C.Chunks.contents c.args.chunks.now in
    let e : option_and_then map_of_rows (shown p c.in-Own.node.pieces)
    ≡ Some m = ap (root_map p) (sym c.in-Own.is) ∙ h in
    c.in_ok-is_there-in-Own.ensures.has ∙ ap is_some
    (value_of_map (shown p c.in-Own.node.pieces) m c.args.key.now e)

pub returns-in_ok-is_there-in-Own-clause-depth : goal.returns-in_ok-is_there-in-Own-clause-depth
returns-in_ok-is_there-in-Own-clause-depth g c = ap
    (root_depth (g.C.Chunks.contents c.args.chunks.now)) c.in-Own.is ∙ ap (λ n. Some n) (sym c.depth.ensures)

pub seek_placed-requires-clause-place : goal.seek_placed-requires-clause-place
seek_placed-requires-clause-place g c = placed_may
    (g.C.Chunks.places c.args.chunks.now) c.args.self.now.root c.in-Placed.at c.in-Placed.is c.requires.places

pub has-requires-clause-places : goal.has-requires-clause-places
has-requires-clause-places g c = own_may
    (g.C.Chunks.places c.args.chunks.now) c.args.self.now.root c.in-Own.node c.in-Own.is c.requires.places
