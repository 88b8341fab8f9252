use Rattle.std.proofs.Common.{ap, arith}
use Rattle.std.specs.Prelude.{option_map}
use Rattle.group_history.specs.Refs.{stamp_of}
use Rattle.group_history.specs.Spelling.{Segment}
use Rattle.map_chunks.proofs.OpenLemmas.{known, spells_rows}
use Rattle.map_chunks.specs.Shown.{chunk_rows}
use Rattle.map_nodes.proofs.nodes.putting.paths.change_placed.Goals as goal

pub overflow_add-down : goal.overflow_add-down
overflow_add-down g c =
    let p = g.C.Chunks.contents c.args.chunks.now in
    let k = stamp_of c.args.at in
    let n = known (chunk_rows p k) c.requires.tree in
    let s = spells_rows p k n.rows n.is in
    omega (arith, c.requires.copies s.segment.depth (ap (option_map (λ (x : Segment). x.depth)) s.is))
