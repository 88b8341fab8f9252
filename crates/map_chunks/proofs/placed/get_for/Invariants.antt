use Rattle.std.proofs.Common.{◌≡◌, nat_cmp}
use Rattle.std.specs.Cmp.Lexicographic.{slice_cmp}
use Rattle.std.specs.FinMap.{find}
use Rattle.group_history.specs.Refs.{stamp_of}
use Rattle.map_chunks.specs.Places.{Grows}
use Rattle.map_chunks.specs.Shown.{chunk_rows, IsTree, rows_or}
use Rattle.map_chunks.proofs.placed.get_for.Given as goal

abbrev pub invariant-loop-held : goal.invariant-loop-held
invariant-loop-held g l = IsTree (chunk_rows (g.C.Chunks.contents l.chunks) (stamp_of l.at))
    × g.C.Chunks.places l.chunks l.at × Grows g.C.Chunks.contents g.C.Chunks.places l.initial.chunks l.chunks
    × (find (slice_cmp nat_cmp) l.key (rows_or (chunk_rows (g.C.Chunks.contents l.chunks) (stamp_of l.at)))
    ≡ find (slice_cmp nat_cmp) l.key
    (rows_or (chunk_rows (g.C.Chunks.contents l.initial.chunks) (stamp_of l.fn.at))))

abbrev pub decreases-loop-held : goal.decreases-loop-held
decreases-loop-held g l = stamp_of l.at
