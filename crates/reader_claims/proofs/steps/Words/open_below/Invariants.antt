use Rattle.std.proofs.Common.{◌≡◌, ℕ, ◌≤◌, ◌<◌}
use Rattle.reader_claims.specs.Machine.{Moves}
use Rattle.reader_claims.specs.Inside.Known.{reader_id, view}
use Rattle.reader_claims.specs.Views.{IsClosed}
use Rattle.reader_claims.proofs.Pins.{OpenTo}
use Rattle.reader_claims.proofs.steps.Words.open_below.Given as goal

abbrev pub invariant-loop-other : goal.invariant-loop-other
invariant-loop-other l = record {
  table : reader_id l.reader ≡ reader_id l.initial.reader;
  moves : Moves (view l.initial.reader) (view l.reader);
  kept : view l.reader ≡ record (view l.initial.reader) { read = (view l.reader).read };
  sizes : (view l.reader).sizes ≡ l.self.sizes;
  open_at : (r : ℕ) → r ≤ l.least → OpenTo l.other (view l.reader) r;
  closed_at : (r : ℕ) → l.least < r → IsClosed (view l.reader) r;
}
