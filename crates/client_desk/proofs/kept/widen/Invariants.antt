use Rattle.std.proofs.Common.{ℕ, ◌≡◌, ◌≤◌, ◌+◌, ◌-◌, length, take}
use Rattle.client_desk.specs.Kept.{kept_at}
use Rattle.client_desk.proofs.kept.widen.Given as goal

abbrev pub invariant-loop-all : goal.invariant-loop-all
invariant-loop-all g l = record {
  same : (k : ℕ) → kept_at l.all.items k ≡ kept_at l.fn.all.items k;
  begins : take l.count l.all.items ≡ l.fn.all.items;
  behind : l.count ≤ length l.all.items;
}

abbrev pub decreases-loop-all : goal.decreases-loop-all
decreases-loop-all g l = l.number + 1 - length l.all.items
