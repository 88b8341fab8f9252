-- What the mutators of a group are at whose places hosts sit: rules, and for names without one the mutators of scripts
-- or the host's own.
use Rattle.std.specs.Prelude.{Bool, true, false, Option, Some, None}
use Rattle.group_history.specs.Map.{Bytes}
use Rattle.group_history.specs.Meaning.{Meanings}
use Rattle.rule_mutators.specs.Meaning.{rule_means, steps_named}
use Rattle.rule_mutators.specs.Rules.{Rules, StepList}
use Rattle.script_mutators.specs.Mutators.{script_means}

-- The group's rules; whether a name without a rule is one of the host's own mutators, and what these mean.
pub record Meant : Type 0 where
  pub rules : Rules
  pub asks : Bool
  pub own : Meanings

-- what a name without a rule means
abbrev pub means_without : Bool → Meanings → Meanings
means_without true own = own
means_without false own = script_means

-- what a name means: the rule of that name, where there is one
abbrev pub means_by : Option StepList → Meanings → Meanings
means_by None other name args why m = other name args why m
means_by (Some steps) other name args why m = rule_means steps args m

unfoldable pub means_of : Meant → Meanings
means_of meant name args why m =
    means_by (steps_named name meant.rules) (means_without meant.asks meant.own) name args why m

-- whether the group has the mutator of a name: its rule, or where the host has none of its own any
abbrev pub has_by : Option StepList → Bool → Bool
has_by None true = false
has_by None false = true
has_by (Some steps) asks = true

unfoldable pub has_of : Meant → Bytes → Bool
has_of meant name = has_by (steps_named name meant.rules) meant.asks
