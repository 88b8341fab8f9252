use Rattle.std.proofs.Common.{◌≡◌, length, ℕ, ◌-◌}
use Rattle.rebase.specs.Clients.{Grouped}
use Rattle.giqaymu_c.specs.Exports.{AreNewHandles, Terms, IsNewPlace}
use Rattle.giqaymu_c.proofs.exports.give_out.Given as goal

abbrev pub invariant-loop-at : goal.invariant-loop-at
invariant-loop-at l = record {
  count : length l.places ≡ length l.fn.places;
  given : (group : Grouped) (commit : ℕ) (terms : Terms)
      → IsNewPlace group commit terms (length l.fn.places - 1) l.fn.first
      → IsNewPlace group commit terms (length l.fn.places - l.at) l.first
      × AreNewHandles group commit terms l.at l.places;
}
