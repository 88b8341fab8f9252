use Rattle.std.proofs.Common.{◌+◌, ◌*◌, length}
use Rattle.std.specs.Arc.{arc_value}
use Rattle.group_history.specs.Rows.{paired}
use Rattle.map_chunks.proofs.ScanLemmas.{first_rows}
use Rattle.map_chunks.specs.Places.{Grows}
use Rattle.map_chunks.specs.Scanning.{Took, taken}
use Rattle.map_nodes.proofs.ScanLemmas.{shown_kid}
use Rattle.map_nodes.specs.Trails.{step_kids, steps_seen}
use Rattle.map_nodes.proofs.nodes.trails.scanning.+walk.Given as goal

abbrev pub decreases-scan_steps : goal.decreases-scan_steps
decreases-scan_steps g l = 3 * length l.rest.steps.now

abbrev pub decreases-scan_children : goal.decreases-scan_children
decreases-scan_children g l = 3 * length l.way.rest.now + 2

abbrev pub decreases-scan_child : goal.decreases-scan_child
decreases-scan_child g l = 3 * length l.child.way.rest.now + 1

abbrev pub invariant-scan_children-loop-place : goal.invariant-scan_children-loop-place
invariant-scan_children-loop-place g l =
    record {
      grown : Grows g.C.Chunks.contents g.C.Chunks.places l.fn.chunks l.chunks;
      rows : Took g.S.TakesRows.has l.fn.sink l.sink l.fn.room l.left (taken l.scan l.fn.room
          (first_rows (shown_kid (g.C.Chunks.contents l.fn.chunks)) (paired (arc_value l.way.step.now.keys)
          (step_kids l.way.step.now (steps_seen l.way.rest.now l.way.end.now))) l.place));
    }
