use Rattle.std.proofs.Common.{ℕ, ◌<◌}
use Rattle.std.specs.Prelude.{IsSome}
use Rattle.client_desk.specs.Kept.{kept_at}
use Rattle.client_desk.proofs.kept.free_number.Given as goal

abbrev pub invariant-loop-number : goal.invariant-loop-number
invariant-loop-number g l = record {
  least : (k : ℕ) → k < l.number → IsSome (kept_at l.all k);
}
