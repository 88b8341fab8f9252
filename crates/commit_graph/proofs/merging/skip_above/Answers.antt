use Rattle.std.proofs.Common.{ℕ, ◌<◌, ◌≤◌, inl, inr, arith, subst, sym}
use Rattle.std.specs.Prelude.{slice_index}
use Rattle.std.proofs.Math.Nat.{eq-or-lt_of_le}
use Rattle.commit_graph.specs.Reach.{stamps_of}
use Rattle.commit_graph.proofs.Leaving.{stamp_at}
use Rattle.commit_graph.proofs.merging.skip_above.Goals as goal

pub loop-place-preserved : goal.loop-place-preserved
loop-place-preserved c =
    let i = c.loop-place.invariant in
    let here = stamp_at c.args.kept.now c.loop-place.place (record { bits = 0 }) c.loop-place-test.true in
    let now : c.args.stamp < slice_index (stamps_of c.args.kept.now) c.loop-place.place = omega
    (arith, here, c.stamp.ensures.stamp, c.if-stamp.true) in
    record {
      after = omega (arith, i.after);
      within = omega (arith, c.loop-place-test.true);
      skipped = λ j l m. (let n : j ≤ c.loop-place.place = omega (arith, m) in elim (eq-or-lt_of_le n) [
        | inl q ↦ subst (λ (w : ℕ). c.args.stamp < slice_index (stamps_of c.args.kept.now) w) (sym q) now
        | inr q ↦ i.skipped j l q
      ]);
    }
