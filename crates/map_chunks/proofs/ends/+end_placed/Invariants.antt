use Rattle.group_history.specs.Refs.{stamp_of}
use Rattle.map_chunks.proofs.ends.+end_placed.Given as goal

abbrev pub decreases-end_placed : goal.decreases-end_placed
decreases-end_placed g l = stamp_of l.at
