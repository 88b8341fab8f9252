use Rattle.std.proofs.Common.{◌≡◌, ◌+◌, ℕ, length, map, take}
use Rattle.std.specs.Arc.{arc_value}
use Rattle.rebase.specs.Clients.{AreSeatsOf}
use Rattle.script_parser.specs.Scripts.{client_said}
use Rattle.script_runner.specs.Inside.Players.{AreLeftOf, AreNewIn, line_of}
use Rattle.script_runner.proofs.runner.open_clients.Given as goal

abbrev pub invariant-loop-line : goal.invariant-loop-line
invariant-loop-line g l = record {
  lines : map line_of l.turns.items ≡ map client_said (take l.line-index l.lines);
  count : length l.turns.items ≡ l.line-index;
  free : length l.seats.free + l.line-index ≡ length l.fn.seats.free;
  seats : AreSeatsOf (arc_value l.group).group l.seats.free;
  new : (commit : ℕ) → AreLeftOf (arc_value l.group) (length l.fn.seats.free) commit l.fn.seats.free
      → AreNewIn g.M.Means.means (arc_value l.group) (length l.fn.seats.free) commit l.turns.items
      × AreLeftOf (arc_value l.group) (length l.fn.seats.free) commit l.seats.free;
}
