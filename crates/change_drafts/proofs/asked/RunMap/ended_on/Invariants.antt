use Rattle.map_chunks.specs.Places.{with_nodes}
use Rattle.change_drafts.proofs.asked.RunMap.ended_on.Given as goal

-- what is placed, and the draft at hand
abbrev pub ghosts-ended : goal.ghosts-ended
ghosts-ended g a = record { known = with_nodes g.K.NamesContents.known a.chunks.draft.now.nodes }
