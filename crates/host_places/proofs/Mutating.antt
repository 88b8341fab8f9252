-- A mutator that the group runs itself.
use Rattle.std.proofs.Common.{◌≡◌, Option, Some, None, refl, sym, subst}
use Rattle.std.specs.Prelude.{Bool, true, false}
use Rattle.std.specs.Coded.{Coded-set, codes}
use mathlib.Core.Logic.{∥∥₁_elim}
use Rattle.group_history.specs.declared.mutations.Reason.{Reason}
use Rattle.group_history.specs.declared.mutators.Ran.{Ran}
use Rattle.group_history.specs.Map.{Bytes, Entries}
use Rattle.group_history.specs.Meaning.{Meanings}
use Rattle.group_history.specs.Ran.{RunsAs}
use Rattle.rule_mutators.specs.Meaning.{RunsIfAny, steps_named}
use Rattle.rule_mutators.specs.Rules.{Rules, StepList}
use Rattle.rule_mutators.proofs.PickedRules.{RunsAs-prop}
use Rattle.script_mutators.specs.Mutators.{script_means}
use Rattle.host_places.specs.Mutators.{Meant, has_by, has_of, means_by, means_of, means_without}

-- what holds of the mutators that are held holds of those that the type names
abbrev IsNamed : Rules → Bool → Meant → Type 0
IsNamed held asks meant = ∥ (held ≡ meant.rules) × (asks ≡ meant.asks) ∥₁

abbrev with_own : Rules → Bool → Meanings → Meant
with_own held asks own = record { rules = held; asks = asks; own = own }

as_named : (P : Meant → Type 0) (held : Rules) (asks : Bool) (meant : Meant) → IsProp (P meant)
    → IsNamed held asks meant → P (with_own held asks meant.own) → P meant
as_named P held asks meant prop same is = ∥∥₁_elim same prop (λ e.
    subst (λ r. P (with_own r meant.asks meant.own)) e.0
    (subst (λ a. P (with_own held a meant.own)) e.1 is))

bool_prop : (a b : Bool) → IsProp (a ≡ b)
bool_prop a b = hlevel (codes, Coded-set)

-- ---- whether the group has it

rule_had : (o : Option StepList) (asks : Bool) (args : Bytes) (m left : Entries) (ran : Ran)
    → RunsIfAny o args m (Some ran) left → true ≡ has_by o asks
rule_had None asks args m left ran is = absurd is
rule_had (Some steps) asks args m left ran is = refl

-- where there was a rule
pub had_rule : (held : Rules) (asks : Bool) (meant : Meant) (name args : Bytes) (m left : Entries) (ran : Ran)
    → IsNamed held asks meant → RunsIfAny (steps_named name held) args m (Some ran) left → true ≡ has_of meant name
unfolding has_of
had_rule held asks meant name args m left ran same is =
    as_named (λ w. true ≡ has_of w name) held asks meant (bool_prop true (has_of meant name)) same
    (rule_had (steps_named name held) asks args m left ran is)

none_had : (o : Option StepList) (asks is_some : Bool) (args : Bytes) (m left : Entries) → RunsIfAny o args m None left
    → has_by None asks ≡ is_some → is_some ≡ has_by o asks
none_had None asks is_some args m left is e = sym e
none_had (Some steps) asks is_some args m left is e = absurd is

-- and where there was none
pub had_none : (held : Rules) (asks : Bool) (meant : Meant) (name args : Bytes) (m left : Entries) (is_some : Bool)
    → IsNamed held asks meant → RunsIfAny (steps_named name held) args m None left → has_by None asks ≡ is_some
    → is_some ≡ has_of meant name
unfolding has_of
had_none held asks meant name args m left is_some same is e =
    as_named (λ w. is_some ≡ has_of w name) held asks meant (bool_prop is_some (has_of meant name)) same
    (none_had (steps_named name held) asks is_some args m left is e)

-- ---- how it ran

rule_ran : (o : Option StepList) (other : Meanings) (name args : Bytes) (why : Reason) (m left : Entries) (ran : Ran)
    → RunsIfAny o args m (Some ran) left → RunsAs (means_by o other name args why m) ran left
rule_ran None other name args why m left ran is = absurd is
rule_ran (Some steps) other name args why m left ran is = is

pub ran_rule : (held : Rules) (asks : Bool) (meant : Meant) (name args : Bytes) (why : Reason) (m left : Entries)
    (ran : Ran) → IsNamed held asks meant → RunsIfAny (steps_named name held) args m (Some ran) left
    → RunsAs (means_of meant name args why m) ran left
unfolding means_of
ran_rule held asks meant name args why m left ran same is =
    as_named (λ w. RunsAs (means_of w name args why m) ran left) held asks meant
    (RunsAs-prop (means_of meant name args why m) ran left) same
    (rule_ran (steps_named name held) (means_without asks meant.own) name args why m left ran is)

script_ran : (o : Option StepList) (name args : Bytes) (why : Reason) (m mid left : Entries) (ran : Ran)
    → RunsIfAny o args m None mid → RunsAs (script_means name args why mid) ran left
    → RunsAs (means_by o script_means name args why m) ran left
script_ran None name args why m mid left ran is did = subst (λ w. RunsAs (script_means name args why w) ran left) is did
script_ran (Some steps) name args why m mid left ran is did = absurd is

-- a name without a rule, where the host has no mutators of its own
pub ran_script : (held : Rules) (asks : Bool) (meant : Meant) (name args : Bytes) (why : Reason) (m mid left : Entries)
    (ran : Ran) → IsNamed held asks meant → asks ≡ false → RunsIfAny (steps_named name held) args m None mid
    → RunsAs (script_means name args why mid) ran left → RunsAs (means_of meant name args why m) ran left
unfolding means_of
ran_script held asks meant name args why m mid left ran same off is did =
    as_named (λ w. RunsAs (means_of w name args why m) ran left) held asks meant
    (RunsAs-prop (means_of meant name args why m) ran left) same
    (subst (λ a. RunsAs (means_by (steps_named name held) (means_without a meant.own) name args why m) ran left)
    (sym off) (script_ran (steps_named name held) name args why m mid left ran is did))
