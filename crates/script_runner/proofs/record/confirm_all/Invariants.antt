use Rattle.script_runner.specs.Inside.Records.{AreConfirmed}
use Rattle.script_runner.proofs.record.confirm_all.Given as goal

abbrev pub invariant-loop-i : goal.invariant-loop-i
invariant-loop-i g l = record { confirmed : AreConfirmed l.i l.other l.fn.turns l.turns }
