-- The language of rules. A rule is a list of steps, done in order; an expression has a value at arguments and a map.
use Rattle.std.specs.Prelude.{ℕ, List}
use Rattle.serde_json.specs.Data.{Data}
use Rattle.group_history.specs.Map.{Bytes}
use Rattle.rule_mutators.specs.declared.language.Which.{Which}
use Rattle.rule_mutators.specs.declared.language.One.{One}
use Rattle.rule_mutators.specs.declared.language.Two.{Two}

mutual
  pub data Expression : Type 0 where
    literal : Data → Expression
    argument : Which → Expression
    one : One → Expression → Expression
    field : Expression → Bytes → Expression
    or : Expression → Expression → Expression
    two : Two → Expression → Expression → Expression
    cat : Expressions → Expression
    object : ObjectFields → Expression

  pub data Expressions : Type 0 where
    no_expressions : Expressions
    expression : Expression → Expressions → Expressions

  pub data ObjectFields : Type 0 where
    no_fields : ObjectFields
    member : Bytes → Expression → ObjectFields → ObjectFields

mutual
  pub data RuleStep : Type 0 where
    put : Expression → Expression → RuleStep
    del : Expression → RuleStep
    merge : Expression → Expression → RuleStep
    -- refuses with the code where the expression is false
    need : Expression → ℕ → RuleStep
    choice : Expression → StepList → StepList → RuleStep

  pub data StepList : Type 0 where
    no_steps : StepList
    step : RuleStep → StepList → StepList

-- rules by name
abbrev pub Rules : Type 0
Rules = List (Bytes × StepList)
