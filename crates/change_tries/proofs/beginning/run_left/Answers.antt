use Rattle.std.proofs.Common.{◌≡◌, Option, Some, sym, subst}
use Rattle.std.specs.Prelude.{IfOk, IfSome}
use Rattle.group_history.specs.Refs.{stamp_of}
use Rattle.group_history.specs.Spelling.{Contents, map_at}
use Rattle.group_history.specs.State.{replayed, view_of}
use Rattle.map_chunks.specs.Places.{with_nodes}
use Rattle.map_tree.specs.Trees.{tree_map}
use Rattle.map_tree.specs.declared.tree.Tree.{Tree}
use Rattle.change_tries.proofs.beginning.run_left.Goals as goal

pub run_pending-requires-clause-map : goal.run_pending-requires-clause-map
run_pending-requires-clause-map g c κs within =
    let t = c.requires.tip in let chain = c.args.chain.now in let m = view_of g.M.Means.means t.0 in (
      m,
      subst (λ (w : Contents). map_at (with_nodes w chain.draft.nodes) (stamp_of chain.tip.root) ≡ Some m)
          (sym c.nodes.ensures.nodes) t.1.1,
    )

pub returns-clause-map : goal.returns-clause-map
returns-clause-map g c s tip =
    let means = g.M.Means.means in let chain = c.args.chain.now in let m = view_of means s in
    subst (λ (w : Contents). IfOk c.run_pending.result (λ (found : Option Tree). IfSome found (λ (tree : Tree).
    tree_map (with_nodes w chain.draft.nodes) tree ≡ Some (replayed means m c.args.left.now)))) c.nodes.ensures.nodes
    (c.run_pending.ensures.left m (subst (λ (w : Contents).
    map_at (with_nodes w chain.draft.nodes) (stamp_of chain.tip.root) ≡ Some m) (sym c.nodes.ensures.nodes) tip.1))
