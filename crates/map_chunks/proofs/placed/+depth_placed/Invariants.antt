use Rattle.group_history.specs.Refs.{stamp_of}
use Rattle.map_chunks.proofs.placed.+depth_placed.Given as goal

abbrev pub decreases-depth_placed : goal.decreases-depth_placed
decreases-depth_placed g l = stamp_of l.at
