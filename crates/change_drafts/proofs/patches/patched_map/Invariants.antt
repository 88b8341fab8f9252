use Rattle.map_chunks.specs.Places.{with_nodes}
use Rattle.change_drafts.proofs.patches.patched_map.Given as goal

-- what is placed, and the draft at hand
abbrev pub ghosts-patched_known : goal.ghosts-patched_known
ghosts-patched_known g a = record { known = with_nodes g.K.NamesContents.known a.chunks.draft.now.nodes }
