use Rattle.std.proofs.Common.{◌≡◌, length, map, take}
use Rattle.script_runner.specs.Phases.{HasWrittenPhases}
use Rattle.script_parser.specs.Scripts.{phase_said}
use Rattle.script_runner.specs.Inside.Players.{players_of}
use Rattle.script_runner.specs.Inside.Turns.{StayInGroup}
use Rattle.script_runner.proofs.runner.run_phases.Given as goal

abbrev pub invariant-loop-phase : goal.invariant-loop-phase
invariant-loop-phase g l = record {
  written : HasWrittenPhases g.M.Means.means (players_of l.fn.turns) (map phase_said (take l.phase-index l.phases))
      (g.W.Write.contents l.fn.out) (g.W.Write.contents l.out) (players_of l.turns);
  len : length l.turns ≡ length l.fn.turns;
  one : StayInGroup l.fn.turns l.turns;
}
