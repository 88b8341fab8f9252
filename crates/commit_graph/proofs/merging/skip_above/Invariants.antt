use Rattle.std.proofs.Common.{ℕ, ◌<◌, ◌≤◌, ◌-◌, length}
use Rattle.std.specs.Prelude.{slice_index}
use Rattle.commit_graph.specs.Reach.{stamps_of}
use Rattle.commit_graph.proofs.merging.skip_above.Given as goal

abbrev pub invariant-loop-place : goal.invariant-loop-place
invariant-loop-place l = record {
  after : l.from ≤ l.place;
  within : l.place ≤ length l.kept;
  skipped : (j : ℕ) → l.from ≤ j → j < l.place → l.stamp < slice_index (stamps_of l.kept) j;
}

abbrev pub decreases-loop-place : goal.decreases-loop-place
decreases-loop-place l = length l.kept - l.place
