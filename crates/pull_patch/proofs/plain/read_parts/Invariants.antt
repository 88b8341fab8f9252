use Rattle.std.proofs.Common.{◌≡◌, ℕ, ◌≤◌, length}
use Rattle.json.specs.Json.{members, value}
use Rattle.serde_json.specs.Data.{Members, no_members}
use Rattle.serde_json.specs.Read.{of_members, converted}
use Rattle.pull_patch.specs.Inside.Plain.{ArePartsOf}
use Rattle.pull_patch.proofs.plain.read_parts.Given as goal

abbrev pub invariant-parts : goal.invariant-parts
invariant-parts l =
    (n : ℕ) × (length l.reader ≤ n) × (length l.reader ≤ length l.initial.reader)
    × (ms : Members)
    × (converted (λ xs. of_members xs no_members) (members (value 126) (length l.initial.reader) l.initial.reader)
    ≡ converted (λ xs. of_members xs ms) (members (value 126) n l.reader))
    × ArePartsOf l.parts ms

abbrev pub decreases-parts : goal.decreases-parts
decreases-parts l = length l.reader
