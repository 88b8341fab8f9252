use Rattle.std.proofs.Common.{◌≡◌, ◌∙◌, List, Option, Some, ap, subst}
use Rattle.group_history.specs.declared.mutations.MutationFields.{MutationFields as Mutation}
use Rattle.std.specs.Prelude.{IfSome}
use Rattle.group_history.specs.State.{replayed}
use Rattle.map_chunks.specs.Places.{with_nodes}
use Rattle.map_tree.specs.Trees.{tree_map}
use Rattle.map_tree.specs.declared.tree.Tree.{Tree}
use Rattle.change_drafts.proofs.locals.run_done.Goals as goal

pub returns-in-Some-clause-left : goal.returns-in-Some-clause-left
returns-in-Some-clause-left g c m h =
    subst (λ (o : Option Tree). IfSome o (λ (tree : Tree).
    tree_map (with_nodes g.K.NamesContents.known c.args.draft.now.nodes) tree
    ≡ Some (replayed g.M.Means.means m c.deref.result.now))) c.in-Some.is (c.in_ok-clean.ensures.left m h)
    ∙ ap (λ (xs : List Mutation). Some (replayed g.M.Means.means m xs)) c.deref.ensures.value
