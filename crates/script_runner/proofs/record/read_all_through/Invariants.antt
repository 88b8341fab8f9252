use Rattle.script_runner.specs.Inside.Records.{HaveReadThrough}
use Rattle.script_runner.proofs.record.read_all_through.Given as goal

abbrev pub invariant-loop-i : goal.invariant-loop-i
invariant-loop-i g l = record { through : HaveReadThrough l.i l.fn.turns l.turns }
