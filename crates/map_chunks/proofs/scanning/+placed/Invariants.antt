use Rattle.std.proofs.Common.{◌+◌, ◌*◌}
use Rattle.group_history.specs.Refs.{stamp_of}
use Rattle.group_history.specs.Rows.{paired}
use Rattle.map_chunks.specs.Places.{Grows}
use Rattle.map_chunks.specs.Scanning.{Took, taken}
use Rattle.map_chunks.proofs.ScanLemmas.{first_rows, ref_rows, top, chunk_top}
use Rattle.map_chunks.proofs.scanning.+placed.Given as goal

abbrev pub decreases-scan_placed : goal.decreases-scan_placed
decreases-scan_placed g l = 3 * stamp_of l.at + 2

abbrev pub decreases-scan_chunk : goal.decreases-scan_chunk
decreases-scan_chunk g l = 3 * chunk_top l.chunk.now + 1

abbrev pub decreases-scan_children : goal.decreases-scan_children
decreases-scan_children g l = 3 * top (paired l.below.firsts.now l.below.children.now)

abbrev pub invariant-scan_children-loop-place : goal.invariant-scan_children-loop-place
invariant-scan_children-loop-place g l =
    record {
      grown : Grows g.C.Chunks.contents g.C.Chunks.places l.fn.chunks l.chunks;
      rows : Took g.S.TakesRows.has l.fn.sink l.sink l.fn.room l.left (taken l.scan l.fn.room
          (first_rows (ref_rows (g.C.Chunks.contents l.fn.chunks)) (paired l.below.firsts.now l.below.children.now)
          l.place));
    }
