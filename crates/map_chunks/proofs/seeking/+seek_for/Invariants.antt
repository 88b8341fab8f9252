use Rattle.group_history.specs.Refs.{stamp_of}
use Rattle.map_chunks.proofs.seeking.+seek_for.Given as goal

abbrev pub decreases-seek_for : goal.decreases-seek_for
decreases-seek_for g l = stamp_of l.at
