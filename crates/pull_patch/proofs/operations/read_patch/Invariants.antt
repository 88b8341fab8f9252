use Rattle.std.proofs.Common.{◌≤◌, List, drop, map}
use Rattle.serde_json.specs.Data.{items_depth}
use Rattle.serde_json.specs.View.{view, items_view}
use Rattle.pull_patch.specs.Operations.{Edit, edit_of, operation_of}
use Rattle.pull_patch.proofs.Eaches.{Gave, Gathered}
use Rattle.pull_patch.proofs.operations.read_patch.Given as goal

abbrev pub invariant-loop-item : goal.invariant-loop-item
invariant-loop-item l =
    (done : List Edit) × Gave edit_of (map view l.item-items) done (map view (drop l.item-index l.item-items))
    × Gathered operation_of done l.whole l.patch.items
    × (items_depth (items_view (drop l.item-index l.item-items)) ≤ 125)
