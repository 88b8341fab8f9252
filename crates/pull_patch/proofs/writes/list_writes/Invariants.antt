use Rattle.std.proofs.Common.{◌≤◌, List, drop, map}
use Rattle.serde_json.specs.Data.{items_depth}
use Rattle.serde_json.specs.View.{view, items_view}
use Rattle.pull_patch.specs.Operations.{Edit}
use Rattle.pull_patch.specs.Writes.{write_edit, write_of}
use Rattle.pull_patch.proofs.Eaches.{Gave, Gathered}
use Rattle.pull_patch.proofs.writes.list_writes.Given as goal

abbrev pub invariant-loop-item : goal.invariant-loop-item
invariant-loop-item l =
    (done : List Edit) × Gave write_edit (map view l.item-items) done (map view (drop l.item-index l.item-items))
    × Gathered write_of done l.whole l.writes.items
    × (items_depth (items_view (drop l.item-index l.item-items)) ≤ 125)
