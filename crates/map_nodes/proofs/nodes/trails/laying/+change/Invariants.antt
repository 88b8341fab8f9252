use Rattle.std.specs.Prelude.{◌*◌, ◌+◌}
use Rattle.group_history.specs.Refs.{stamp_of}
use Rattle.map_nodes.proofs.nodes.trails.laying.+change.Given as goal

abbrev pub decreases-change_at : goal.decreases-change_at
decreases-change_at g l = 2 * stamp_of l.at + 1

abbrev pub decreases-change_in : goal.decreases-change_in
decreases-change_in g l = 2 * stamp_of l.here.at
