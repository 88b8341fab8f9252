use Rattle.std.proofs.Common.{◌≡◌, Some, sym, subst}
use Rattle.std.specs.Prelude.{IfOk}
use Rattle.group_history.specs.Meaning.{left_by}
use Rattle.group_history.specs.Ran.{RunsAs}
use Rattle.group_history.specs.Spelling.{Contents}
use Rattle.map_chunks.specs.Places.{with_nodes}
use Rattle.map_tree.specs.Trees.{tree_map}
use Rattle.map_tree.specs.declared.tree.Tree.{Tree}
use Rattle.change_drafts.specs.Running.{map_now, map_then}
use Rattle.change_tries.proofs.ending.left_by_run.Goals as goal

pub returns-clause-left : goal.returns-clause-left
returns-clause-left g c meaning runs =
    let nodes = c.args.chain.now.draft.nodes in let map = c.args.map in
    subst (λ (w : Contents). IfOk c.ended_on.result (λ (tree : Tree). tree_map (with_nodes w nodes) tree
    ≡ Some (left_by meaning (map_then (with_nodes w nodes) map)))) c.nodes.ensures.nodes
    (c.ended_on.ensures.left meaning (subst (λ (w : Contents). RunsAs meaning c.args.ran
    (map_now (with_nodes w nodes) map)) (sym c.nodes.ensures.nodes) runs))
