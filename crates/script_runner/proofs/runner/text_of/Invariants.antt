use Rattle.std.proofs.Common.{◌≡◌, take}
use Rattle.std.specs.List.{All, concat}
use Rattle.script_runner.specs.Inside.Turns.{IsPrinted, turn_texts}
use Rattle.script_runner.proofs.runner.text_of.Given as goal

abbrev pub invariant-loop-turn : goal.invariant-loop-turn
invariant-loop-turn g l = record {
  text : l.text.items ≡ concat (turn_texts (take l.turn-index l.turns));
  all : All IsPrinted (take l.turn-index l.turns);
}
