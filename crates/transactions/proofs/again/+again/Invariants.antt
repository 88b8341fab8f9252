use Rattle.std.proofs.Common.{◌+◌, ◌*◌}
use mathlib.Core.List.{IsPrefix}
use Rattle.group_history.specs.Refs.{stamp_of}
use Rattle.group_history.specs.Rows.{paired}
use Rattle.group_history.specs.Spelling.{Contents}
use Rattle.map_chunks.specs.Inside.Scanning.{children_rows}
use Rattle.map_chunks.specs.Places.{Grows}
use Rattle.map_chunks.specs.Scanning.{Took, taken}
use Rattle.map_chunks.specs.Shown.{IsTree}
use Rattle.map_chunks.proofs.ScanLemmas.{first_rows, ref_rows, top}
use Rattle.transactions.specs.Rescans.{HasFound}
use Rattle.transactions.specs.Spans.{AreSpans}
use Rattle.transactions.proofs.again.+again.Given as goal

abbrev pub decreases-take_child : goal.decreases-take_child
decreases-take_child g l = 4 * stamp_of l.at + 3

abbrev pub decreases-take_shown : goal.decreases-take_shown
decreases-take_shown g l = 4 * stamp_of l.at + 2

abbrev pub decreases-take_chunk : goal.decreases-take_chunk
decreases-take_chunk g l = 4 * stamp_of l.at + 1

abbrev pub decreases-take_children : goal.decreases-take_children
decreases-take_children g l = 4 * top (paired l.below.firsts.now l.below.children.now)

abbrev pub invariant-take_children-loop-place : goal.invariant-take_children-loop-place
invariant-take_children-loop-place g l =
    record {
      grown : Grows g.C.Chunks.contents g.C.Chunks.places l.fn.chunks l.chunks;
      more : (before all : Contents) → IsPrefix before (g.C.Chunks.contents l.fn.chunks) → IsPrefix before all
          → AreSpans l.asked.scan.now all g.B.PreviousRows.rows l.asked.known.now
          → IsTree (children_rows before (paired l.below.firsts.now l.below.children.now))
          → Took (HasFound l.asked.scan.now all) l.fn.again l.again l.fn.again.room l.again.room
          (taken l.asked.scan.now l.fn.again.room
          (first_rows (ref_rows before) (paired l.below.firsts.now l.below.children.now) l.place));
    }
