use Rattle.std.proofs.Common.{◌≡◌, Option, map, take}
use Rattle.head_word.specs.Marks.{Known}
use Rattle.rebase.specs.Clients.{Grouped}
use Rattle.script_runner.specs.Sights.{CanLearnAll, sight_at}
use Rattle.script_runner.specs.Inside.Turns.{AreOf}
use Rattle.script_runner.proofs.phase.sights_of.Given as goal

abbrev pub invariant-loop-turn : goal.invariant-loop-turn
invariant-loop-turn g l = record {
  seen : map (λ (s : Option Known). s) l.sights.items ≡ map (λ t. sight_at t.client.place) (take l.turn-index l.turns);
  there : (group : Grouped) → AreOf group l.turns → CanLearnAll group l.sights.items;
}
