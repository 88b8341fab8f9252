use Rattle.std.proofs.Common.{◌≡◌, ℕ, ◌≤◌, length}
use Rattle.json.specs.Json.{members, value}
use Rattle.serde_json.specs.Data.{Members, no_members}
use Rattle.serde_json.specs.Read.{of_members, converted}
use Rattle.pull_patch.specs.Inside.Plain.{IsFoundIn}
use Rattle.pull_patch.proofs.plain.puts.read_fields.Given as goal

abbrev pub invariant-fields : goal.invariant-fields
invariant-fields l =
    (n : ℕ) × (length l.reader ≤ n) × (length l.reader ≤ length l.initial.reader)
    × (ms : Members)
    × (converted (λ xs. of_members xs no_members) (members (value 124) (length l.initial.reader) l.initial.reader)
    ≡ converted (λ xs. of_members xs ms) (members (value 124) n l.reader))
    × IsFoundIn l.found ms

abbrev pub decreases-fields : goal.decreases-fields
decreases-fields l = length l.reader
