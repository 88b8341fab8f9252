use Rattle.std.proofs.Common.{◌≡◌, Option, Some, ap, subst, sym, ◌∙◌}
use Rattle.std.specs.Prelude.{IfSome}
use Rattle.group_history.specs.Map.{Entries}
use Rattle.group_history.specs.State.{replayed}
use Rattle.map_chunks.specs.Places.{with_nodes}
use Rattle.map_tree.specs.Trees.{tree_map}
use Rattle.map_tree.specs.declared.tree.Tree.{Tree}
use Rattle.change_drafts.specs.declared.locals.Undone.{Undone}
use Rattle.change_drafts.proofs.locals.run_pending.Goals as goal

pub run_done-requires-clause-left : goal.run_done-requires-clause-left
run_done-requires-clause-left g c κs within m h =
    let means = g.M.Means.means in let xs = c.args.pending.now in
    let left = subst (λ (o : Option Undone). IfSome o (λ (u : Undone).
    tree_map (with_nodes g.K.NamesContents.known c.args.draft.now.nodes) u.tree ≡ Some (replayed means m xs)))
    c.in-Some-2.is (c.in_ok-undone.ensures.left m h) in
    let done = subst (λ (o : Option Undone). IfSome o (λ (u : Undone). replayed means m u.done.items
    ≡ replayed means m xs)) c.in-Some-2.is (c.in_ok-undone.ensures.done m h) in
    left ∙ ap (λ (n : Entries). Some n) (sym done)

pub returns-in_ok-run_done-in-Some-2-clause-left : goal.returns-in_ok-run_done-in-Some-2-clause-left
returns-in_ok-run_done-in-Some-2-clause-left g c m h =
    let means = g.M.Means.means in let xs = c.args.pending.now in
    let done = subst (λ (o : Option Undone). IfSome o (λ (u : Undone). replayed means m u.done.items
    ≡ replayed means m xs)) c.in-Some-2.is (c.in_ok-undone.ensures.done m h) in
    c.in_ok-run_done-in-Some-2.ensures.left m h ∙ ap (λ (n : Entries). Some n) done

pub returns-in-Some-clause-left : goal.returns-in-Some-clause-left
returns-in-Some-clause-left g c m h =
    subst (λ (o : Option Tree). IfSome o (λ (tree : Tree).
    tree_map (with_nodes g.K.NamesContents.known c.args.draft.now.nodes) tree
    ≡ Some (replayed g.M.Means.means m c.args.pending.now))) c.in-Some.is (c.in_ok-tree.ensures.left m h)
