use Rattle.std.proofs.Common.{◌≡◌, drop, map}
use Rattle.rule_mutators.specs.Meaning.{steps_named}
use Rattle.rule_mutators.specs.Views.{rule_of}
use Rattle.rule_mutators.proofs.language.Rules.steps_of.Given as goal

-- what is left has the rule where all have it
abbrev pub invariant-loop-rule : goal.invariant-loop-rule
invariant-loop-rule l =
    steps_named l.name (map rule_of (drop l.rule-index l.rule-items)) ≡ steps_named l.name (map rule_of l.rule-items)
