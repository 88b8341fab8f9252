use Rattle.std.proofs.Common.{◌≡◌, IsSome, Some, sym, subst}
use Rattle.std.specs.Prelude.{IfOk}
use Rattle.group_history.specs.Spelling.{Contents}
use Rattle.map_chunks.specs.Places.{with_nodes}
use Rattle.map_tree.specs.Trees.{tree_map}
use Rattle.change_drafts.specs.Running.{MayReplay}
use Rattle.change_tries.proofs.ending.replay_next.Goals as goal

pub replay_on-requires-clause-map : goal.replay_on-requires-clause-map
replay_on-requires-clause-map g c κs within = subst (λ (w : Contents).
    IsSome (tree_map (with_nodes w c.args.chain.now.draft.nodes) c.args.tree))
    (sym c.nodes.ensures.nodes) c.requires.map

pub returns-clause-left : goal.returns-clause-left
returns-clause-left g c map mapped =
    let nodes = c.args.chain.now.draft.nodes in let x = c.args.mutation.now in
    subst (λ (w : Contents). IfOk c.replay_on.result (MayReplay (with_nodes w nodes) (g.M.Has.has x.name)
    g.M.Means.means map x)) c.nodes.ensures.nodes (c.replay_on.ensures.left map (subst (λ (w : Contents).
    tree_map (with_nodes w nodes) c.args.tree ≡ Some map) (sym c.nodes.ensures.nodes) mapped))
