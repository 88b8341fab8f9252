use Rattle.std.proofs.Common.{◌≡◌}
use Rattle.serde_json.specs.View.{members_view}
use Rattle.rule_mutators.specs.Reading.{named_said}
use Rattle.rule_mutators.proofs.Turns.{rules_left}
use Rattle.rule_mutators.proofs.reading.read_named.Given as goal

-- what was read, before what is left, is what all say
abbrev pub invariant-loop-name : goal.invariant-loop-name
invariant-loop-name l = rules_left l.name-iterator l.rules.items ≡ named_said (members_view l.initial.name-iterator)
