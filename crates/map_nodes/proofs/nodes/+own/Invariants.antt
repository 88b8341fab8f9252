use Rattle.std.proofs.Common.{◌+◌}
use Rattle.map_chunks.specs.Places.{Grows}
use Rattle.group_history.specs.Rows.{paired}
use Rattle.map_nodes.specs.Nodes.{child_height, kids_height}
use Rattle.map_chunks.specs.Scanning.{Took, taken}
use Rattle.map_chunks.proofs.ScanLemmas.{first_rows}
use Rattle.map_nodes.proofs.ScanLemmas.{shown_kid}
use Rattle.map_nodes.proofs.nodes.+own.Given as goal

abbrev pub decreases-OwnNode::scan : goal.decreases-OwnNode::scan
decreases-OwnNode::scan g l = l.self.now.height

abbrev pub decreases-scanning::scan_kids : goal.decreases-scanning::scan_kids
decreases-scanning::scan_kids g l = kids_height l.below.kids.now + 1

abbrev pub decreases-scanning::scan_kid : goal.decreases-scanning::scan_kid
decreases-scanning::scan_kid g l = child_height l.kid.now

abbrev pub invariant-scanning::scan_kids-loop-place : goal.invariant-scanning::scan_kids-loop-place
invariant-scanning::scan_kids-loop-place g l =
    record {
      grown : Grows g.C.Chunks.contents g.C.Chunks.places l.fn.chunks l.chunks;
      rows : Took g.S.TakesRows.has l.fn.sink l.sink l.fn.room l.left (taken l.scan l.fn.room
          (first_rows (shown_kid (g.C.Chunks.contents l.fn.chunks)) (paired l.below.firsts.now l.below.kids.now)
          l.place));
    }
