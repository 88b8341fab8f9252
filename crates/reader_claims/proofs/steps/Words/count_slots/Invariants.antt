use Rattle.std.proofs.Common.{◌≡◌}
use Rattle.reader_claims.specs.Counts.{CountsSlots, Found}
use Rattle.reader_claims.specs.Inside.Known.{reader_id, view}
use Rattle.reader_claims.specs.Machine.{Moves}
use Rattle.reader_claims.specs.Seats.{first_reserved}
use Rattle.reader_claims.proofs.Finding.{HasMore}
use Rattle.reader_claims.proofs.steps.Words.count_slots.Given as goal

abbrev pub invariant-loop-slot : goal.invariant-loop-slot
invariant-loop-slot l = record {
  table : reader_id l.reader ≡ reader_id l.initial.reader;
  moves : Moves (view l.initial.reader) (view l.reader);
  kept : view l.reader ≡ record (view l.initial.reader) { notes = (view l.reader).notes };
  more : HasMore (view l.initial.reader).notes (view l.reader).notes;
  counts : CountsSlots (Found (view l.initial.reader) (view l.reader)) (first_reserved l.self.sizes) l.slot l.counts;
}
