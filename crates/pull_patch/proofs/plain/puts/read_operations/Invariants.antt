use Rattle.std.proofs.Common.{◌≡◌, ℕ, ◌≤◌, length}
use Rattle.json.specs.Json.{items, value, parse_map}
use Rattle.serde_json.specs.Data.{Items}
use Rattle.serde_json.specs.Read.{of_items, converted}
use Rattle.pull_patch.specs.Inside.Plain.{ArePatch}
use Rattle.pull_patch.proofs.Patches.{joined}
use Rattle.pull_patch.proofs.plain.puts.read_operations.Given as goal

abbrev pub invariant-operations : goal.invariant-operations
invariant-operations l =
    (n : ℕ) × (length l.reader ≤ n) × (length l.reader ≤ length l.initial.reader)
    × (done : Items)
    × (converted of_items (items (value 125) (length l.initial.reader) l.initial.reader)
    ≡ parse_map (joined done) (converted of_items (items (value 125) n l.reader)))
    × ArePatch done l.patch.items

abbrev pub decreases-operations : goal.decreases-operations
decreases-operations l = length l.reader
