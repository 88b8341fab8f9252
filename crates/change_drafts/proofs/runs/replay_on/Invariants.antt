use Rattle.map_chunks.specs.Places.{with_nodes}
use Rattle.transactions.specs.Maps.{shown_map}
use Rattle.change_drafts.proofs.runs.replay_on.Given as goal

-- what is placed, and the draft at hand
abbrev pub ghosts-replay_known-K-NamesContents : goal.ghosts-replay_known-K-NamesContents
ghosts-replay_known-K-NamesContents g a = record { known = with_nodes g.K.NamesContents.known a.chunks.draft.now.nodes }

-- the tree's map
abbrev pub ghosts-replay_known-S-NamesMap : goal.ghosts-replay_known-S-NamesMap
ghosts-replay_known-S-NamesMap g a = record {
  start = shown_map (with_nodes g.K.NamesContents.known a.chunks.draft.now.nodes) a.tree;
}
