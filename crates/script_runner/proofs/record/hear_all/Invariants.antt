use Rattle.std.proofs.Common.{take}
use Rattle.std.specs.List.{All}
use Rattle.script_runner.specs.Inside.Records.{HasSeen, HasLearnt}
use Rattle.script_runner.proofs.record.hear_all.Given as goal

abbrev pub invariant-loop-other : goal.invariant-loop-other
invariant-loop-other g l = record {
  learnt : HasLearnt l.fn.turn l.turn;
  seen : All (HasSeen l.turn) (take l.other-index l.others);
}
