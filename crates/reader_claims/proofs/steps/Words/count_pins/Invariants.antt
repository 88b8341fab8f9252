use Rattle.std.proofs.Common.{◌≡◌}
use Rattle.reader_claims.specs.Counts.{CountsPins, Found}
use Rattle.reader_claims.specs.Inside.Known.{reader_id, view}
use Rattle.reader_claims.specs.Machine.{Moves}
use Rattle.reader_claims.proofs.Finding.{HasMore}
use Rattle.reader_claims.proofs.steps.Words.count_pins.Given as goal

abbrev pub invariant-loop-other : goal.invariant-loop-other
invariant-loop-other l = record {
  table : reader_id l.reader ≡ reader_id l.initial.reader;
  moves : Moves (view l.initial.reader) (view l.reader);
  kept : view l.reader ≡ record (view l.initial.reader) { read = (view l.reader).read };
  more : HasMore (view l.initial.reader).read (view l.reader).read;
  counts : CountsPins (Found (view l.initial.reader) (view l.reader)) l.other l.fn.slots l.counts;
}
