use Rattle.std.proofs.Common.{◌≡◌}
use Rattle.reader_claims.specs.Machine.{Moves}
use Rattle.reader_claims.specs.Inside.Known.{reader_id, view}
use Rattle.reader_claims.specs.Inside.Scans.{Later}
use Rattle.reader_claims.proofs.steps.Words.quick_over.Given as goal

abbrev pub invariant-loop-slot : goal.invariant-loop-slot
invariant-loop-slot l = record {
  table : reader_id l.reader ≡ reader_id l.initial.reader;
  moves : Moves (view l.initial.reader) (view l.reader);
  taken : (view l.reader).taken ≡ (view l.initial.reader).taken;
  later : Later (view l.initial.reader) (view l.reader);
}
