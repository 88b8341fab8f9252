use Rattle.std.proofs.Common.{◌≡◌, take, Some}
use Rattle.group_history.specs.Map.{Entries}
use Rattle.group_history.specs.Refs.{stamp_of}
use Rattle.group_history.specs.Spelling.{map_at}
use Rattle.group_history.specs.State.{replayed}
use Rattle.map_chunks.specs.Places.{with_nodes}
use Rattle.map_tree.specs.Trees.{tree_map}
use Rattle.change_drafts.proofs.locals.run_undoing.Given as goal

-- The tree has the map that so many of the mutations leave, and those of them that were done leave the same.
abbrev pub invariant-loop-mutation : goal.invariant-loop-mutation
invariant-loop-mutation g l =
    let contents = with_nodes g.K.NamesContents.known l.draft.nodes in
    record {
      tree : (m : Entries) → map_at contents (stamp_of l.fn.root) ≡ Some m
          → tree_map contents l.tree ≡ Some (replayed g.M.Means.means m (take l.mutation-index l.pending));
      done : (m : Entries) → map_at contents (stamp_of l.fn.root) ≡ Some m
          → replayed g.M.Means.means m l.done.items ≡ replayed g.M.Means.means m (take l.mutation-index l.pending);
    }
