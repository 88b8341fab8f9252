-- Which rules the trees of the code are.
use Rattle.std.specs.Prelude.{List, [], ◌∷◌, map, Vec, box_value}
use Rattle.std.specs.declared.alloc.Global.{Global}
use Rattle.serde_json.specs.View.{view}
use Rattle.group_history.specs.Map.{Bytes}
use Rattle.rule_mutators.specs.Rules as spec
use Rattle.rule_mutators.specs.Rules.{Expression, Expressions, no_expressions, expression}
use Rattle.rule_mutators.specs.Rules.{ObjectFields, no_fields, member}
use Rattle.rule_mutators.specs.Rules.{StepList, no_steps, step}
use Rattle.rule_mutators.specs.declared.language.Expr.{Expr, fold-Expr}
use Rattle.rule_mutators.specs.declared.language.Expr.TheOpen.{Expr-F}
use Rattle.rule_mutators.specs.declared.language.RuleStep.{RuleStep, fold-RuleStep}
use Rattle.rule_mutators.specs.declared.language.RuleStep.TheOpen.{RuleStep-F}
use Rattle.rule_mutators.specs.declared.language.Rules.{Rules}

abbrev pub expressions_of : List Expression → Expressions
expressions_of [] = no_expressions
expressions_of (e ∷ es) = expression e (expressions_of es)

abbrev pub object_fields_of : List (Bytes × Expression) → ObjectFields
object_fields_of [] = no_fields
object_fields_of (f ∷ fs) = member f.0 f.1 (object_fields_of fs)

-- one level, with each expression inside already seen
abbrev pub expression_step : Expr-F Expression → Expression
expression_step (Expr-F.Literal v) = spec.literal (view v)
expression_step (Expr-F.Argument w) = spec.argument w
expression_step (Expr-F.One w e) = spec.one w (box_value e)
expression_step (Expr-F.Field e name) = spec.field (box_value e) name
expression_step (Expr-F.Or p) = spec.or (box_value p).0 (box_value p).1
expression_step (Expr-F.Two w p) = spec.two w (box_value p).0 (box_value p).1
expression_step (Expr-F.Cat es) = spec.cat (expressions_of es.items)
expression_step (Expr-F.Object fs) = spec.object (object_fields_of fs.items)

abbrev pub expression_of : Expr → Expression
expression_of = fold-Expr Expression expression_step

abbrev pub all_expressions : List Expr → Expressions
all_expressions es = expressions_of (map expression_of es)

abbrev pub all_fields : List (Bytes × Expr) → ObjectFields
all_fields fs = object_fields_of (map (λ f. (f.0, expression_of f.1)) fs)

abbrev pub both_expressions : Expr × Expr → Expression × Expression
both_expressions both = (expression_of both.0, expression_of both.1)

abbrev pub steps_of : List spec.RuleStep → StepList
steps_of [] = no_steps
steps_of (s ∷ ss) = step s (steps_of ss)

abbrev pub step_step : RuleStep-F spec.RuleStep → spec.RuleStep
step_step (RuleStep-F.Put key e) = spec.put (expression_of key) (expression_of e)
step_step (RuleStep-F.Del key) = spec.del (expression_of key)
step_step (RuleStep-F.Merge key e) = spec.merge (expression_of key) (expression_of e)
step_step (RuleStep-F.Need e code) = spec.need (expression_of e) code
step_step (RuleStep-F.If e on_true on_false) =
    spec.choice (expression_of e) (steps_of on_true.items) (steps_of on_false.items)

abbrev pub step_of : RuleStep → spec.RuleStep
step_of = fold-RuleStep spec.RuleStep step_step

abbrev pub all_steps : List RuleStep → StepList
all_steps ss = steps_of (map step_of ss)

-- one rule by its name
abbrev pub rule_of : Bytes × Vec RuleStep Global → Bytes × StepList
rule_of r = (r.0, all_steps r.1.items)

-- the rules that were read
abbrev pub rules_of : Rules → spec.Rules
rules_of r = map rule_of r.rules.items
