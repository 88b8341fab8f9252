use Rattle.std.proofs.Common.{◌+◌, ◌*◌, None}
use mathlib.Core.List.{IsPrefix}
use Rattle.group_history.specs.Refs.{stamp_of}
use Rattle.group_history.specs.Rows.{paired}
use Rattle.group_history.specs.Spelling.{Contents}
use Rattle.map_chunks.specs.Covers.{Covers}
use Rattle.map_chunks.specs.Inside.Scanning.{children_rows}
use Rattle.map_chunks.specs.Places.{Grows}
use Rattle.map_chunks.specs.Scanning.{Took, taken}
use Rattle.map_chunks.specs.Shown.{IsTree}
use Rattle.map_chunks.proofs.ScanLemmas.{first_rows, ref_rows, top}
use Rattle.map_chunks.proofs.covers.+covering.Given as goal

abbrev pub decreases-add_child : goal.decreases-add_child
decreases-add_child g l = 4 * stamp_of l.at + 3

abbrev pub decreases-add_shown : goal.decreases-add_shown
decreases-add_shown g l = 4 * stamp_of l.at + 2

abbrev pub decreases-add_chunk : goal.decreases-add_chunk
decreases-add_chunk g l = 4 * stamp_of l.at + 1

abbrev pub decreases-add_children : goal.decreases-add_children
decreases-add_children g l = 4 * top (paired l.below.firsts.now l.below.children.now)

abbrev pub invariant-add_children-loop-place : goal.invariant-add_children-loop-place
invariant-add_children-loop-place g l =
    record {
      grown : Grows g.C.Chunks.contents g.C.Chunks.places l.fn.chunks l.chunks;
      cover : (before : Contents) → IsPrefix before (g.C.Chunks.contents l.fn.chunks)
          → IsTree (children_rows before (paired l.below.firsts.now l.below.children.now))
          → Took (Covers l.asked.scan.now before) l.fn.stamps.items l.stamps.items None None (taken l.asked.scan.now
          None
          (first_rows (ref_rows before) (paired l.below.firsts.now l.below.children.now) l.place));
    }
