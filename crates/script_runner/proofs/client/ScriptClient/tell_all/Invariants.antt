use Rattle.std.proofs.Common.{◌≡◌, map, take}
use Rattle.script_runner.specs.Phases.{AreTold}
use Rattle.script_parser.specs.Scripts.{line_said}
use Rattle.script_runner.specs.Inside.Players.{player_of}
use Rattle.script_runner.proofs.client.ScriptClient.tell_all.Given as goal

abbrev pub invariant-loop-line : goal.invariant-loop-line
invariant-loop-line g l = record {
  told : AreTold g.M.Means.means l.sights (player_of l.fn.self) (map line_said (take l.line-index l.lines))
      l.printed.items (player_of l.self);
  group : l.self.place.group ≡ l.fn.self.place.group;
}
