use Rattle.map_chunks.specs.Places.{with_nodes}
use Rattle.change_drafts.proofs.runs.run_on.Given as goal

-- what is placed, and the draft at hand
abbrev pub ghosts-run_known : goal.ghosts-run_known
ghosts-run_known g a = record { known = with_nodes g.K.NamesContents.known a.chunks.draft.now.nodes }
