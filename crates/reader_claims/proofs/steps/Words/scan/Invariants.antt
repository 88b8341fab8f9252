use Rattle.std.proofs.Common.{◌≡◌, ◌≤◌}
use Rattle.reader_claims.specs.Machine.{Moves}
use Rattle.reader_claims.specs.Inside.Known.{reader_id, view}
use Rattle.reader_claims.specs.Passes.{AreShut}
use Rattle.reader_claims.specs.Inside.Scans.{Later}
use Rattle.reader_claims.proofs.steps.Words.scan.Given as goal

abbrev pub invariant-loop-slot : goal.invariant-loop-slot
invariant-loop-slot l = record {
  table : reader_id l.reader ≡ reader_id l.initial.reader;
  moves : Moves (view l.initial.reader) (view l.reader);
  from : l.fn.from ≤ l.slot;
  taken : (view l.reader).taken ≡ (view l.initial.reader).taken;
  later : Later (view l.initial.reader) (view l.reader);
  shut : AreShut (view l.reader).taken l.fn.from l.slot (view l.reader);
}
