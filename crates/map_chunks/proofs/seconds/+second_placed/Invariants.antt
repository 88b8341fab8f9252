use Rattle.group_history.specs.Refs.{stamp_of}
use Rattle.map_chunks.proofs.seconds.+second_placed.Given as goal

abbrev pub decreases-second_placed : goal.decreases-second_placed
decreases-second_placed g l = stamp_of l.at
