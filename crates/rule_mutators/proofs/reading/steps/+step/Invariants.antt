use Rattle.std.proofs.Common.{◌≡◌, drop}
use Rattle.serde_json.specs.View.{items_view}
use Rattle.rule_mutators.specs.Reading.{list_said}
use Rattle.rule_mutators.proofs.Turns.{steps_left}
use Rattle.rule_mutators.proofs.reading.steps.+step.Given as goal

-- what was read, before what is left, is what all say
abbrev pub invariant-read_list-loop-index : goal.invariant-read_list-loop-index
invariant-read_list-loop-index l =
    steps_left l.place l.index (drop l.index l.items) l.steps.items ≡ list_said l.place 0 (items_view l.items)
