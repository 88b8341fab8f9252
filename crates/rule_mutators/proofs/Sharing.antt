-- Mutators that are rules are shared by the clients of a group.
use denote.RattleType.{RattleType}
use denote.Param.Send.{IsSync, recorded_sync, sendable, struct_sync}
use denote.Param.SendFields.{declared_sync}
use denote.Struct.Declared
use denote.Struct.Tuple.{Tuple, tuple_name, type_at}
use mathlib.Core.List.{[], ◌∷◌}
use Rattle.std.proofs.Crossing.{crosses}
use Rattle.std.proofs.MapsCrossing as maps
use Rattle.std.proofs.marker.PhantomData.TheSendSync as phantom
use Rattle.group_history.below.serde_json.proofs.value.Value.TheLaws.TheKnot as value
use Rattle.group_history.below.serde_json.specs.contracts.value.Value as Value
use Rattle.group_history.proofs.texts.Text.TheSendSync as text
use Rattle.group_history.specs.contracts.texts.Text as Text
use Rattle.rule_mutators.proofs.language.One.TheSendSync as one
use Rattle.rule_mutators.proofs.language.Two.TheSendSync as two
use Rattle.rule_mutators.proofs.language.Which.TheSendSync as which
use Rattle.rule_mutators.proofs.language.RuleStep.TheLaws.TheKnot as step
use Rattle.rule_mutators.proofs.language.Expr.TheLaws.TheKnot as expr
use Rattle.rule_mutators.specs.declared.mutators.NamesRules as NamesRules
use Rattle.rule_mutators.specs.contracts.language.Expr as Expr
use Rattle.rule_mutators.specs.contracts.language.Rules as Rules
use Rattle.rule_mutators.specs.contracts.language.RuleStep as RuleStep
use Rattle.rule_mutators.specs.contracts.mutators.RuleMutators as RuleMutators

text_sync : IsSync Text.the_row
text_sync = search (text.the_sync, sendable) depth 60 fits 20000

value_sync : IsSync (Value.the_field).row
value_sync = search (value.crosses, maps.crosses, crosses, sendable) depth 60 fits 20000

-- a pair, boxed
pair_sync : (A B : RattleType) → IsSync A → IsSync B → IsSync (Tuple (A ∷ B ∷ []))
pair_sync A B a b =
    declared_sync (type_at (tuple_name 2) (A ∷ B ∷ [])) (search (a, sendable), (search (b, sendable), tt))

expr_sync : IsSync (Expr.the_field).row
expr_sync =
    expr.sync-Expr value_sync which.the_field_sync one.the_field_sync
    (λ row sync. search (sync, crosses, sendable) depth 60 fits 20000) text_sync
    (λ row sync. search (pair_sync row row sync sync, crosses, sendable) depth 60 fits 20000) two.the_field_sync
    (λ row sync. search (sync, crosses, sendable) depth 60 fits 20000)
    (λ row sync. search (pair_sync Text.the_row row text_sync sync, crosses, sendable) depth 60 fits 20000)

step_sync : IsSync (RuleStep.the_field).row
step_sync =
    step.sync-RuleStep expr_sync (search sendable depth 60 fits 20000)
    (λ row sync. search (sync, crosses, sendable) depth 60 fits 20000)

step_row : IsSync RuleStep.the_row
step_row = search (step_sync, sendable) depth 60 fits 20000

pub rules_sync : IsSync (Rules.the_field).row
rules_sync = search (text_sync, step_row, crosses, sendable) depth 60 fits 20000

pub mutators_sync : (B : RattleType) (picked : NamesRules.Ghosts B.Denot)
    → IsSync (RuleMutators.the_row B picked)
mutators_sync B picked =
    recorded_sync (RuleMutators.the_field B picked).row _ _ (RuleMutators.the_type B picked).to_one
    (struct_sync (Declared.shape (RuleMutators.the_type B picked)) (rules_sync, (phantom.the_field_sync B, tt)))
