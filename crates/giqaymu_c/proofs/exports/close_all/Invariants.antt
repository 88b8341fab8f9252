use Rattle.std.proofs.Common.{◌≡◌, length}
use Rattle.giqaymu_c.proofs.Opening.{AreClosed}
use Rattle.giqaymu_c.proofs.exports.close_all.Given as goal

abbrev pub invariant-loop-at : goal.invariant-loop-at
invariant-loop-at l = record {
  count : length l.places ≡ length l.fn.places;
  closed : AreClosed l.at l.places;
}
