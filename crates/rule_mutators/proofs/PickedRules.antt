-- Rules that are the picked ones run as those.
use Rattle.std.proofs.Common.{◌≡◌, subst, Ok, Err, IfOk}
use Rattle.std.specs.Prelude.{Result}
use Rattle.std.specs.Coded.{Coded-set, Unit-prop, coded_list, coded_ℕ}
use Rattle.std.specs.FinMap as finite
use mathlib.Core.Logic.{∥∥₁_elim}
use Rattle.group_history.specs.declared.mutations.Reason.{Reason}
use Rattle.group_history.specs.declared.mutators.Ran.{Ran}
use Rattle.group_history.specs.declared.mutators.Ran.TheVariants as ran
use Rattle.group_history.specs.declared.mutators.Stop.{Stop}
use Rattle.group_history.specs.Map.{Bytes, Entries}
use Rattle.group_history.specs.Meaning.{Meaning, unknown, refuses, done}
use Rattle.group_history.specs.Ran.{RunsAs}
use Rattle.rule_mutators.specs.Meaning.{rules_mean}
use Rattle.rule_mutators.specs.Rules.{Rules}

-- an answer suits a meaning in one way at most
pub RunsAs-prop : (x : Meaning) (r : Ran) (left : Entries) → IsProp (RunsAs x r left)
RunsAs-prop unknown ran.Unknown left = Unit-prop
RunsAs-prop unknown ran.Done left = λ p q. absurd p
RunsAs-prop unknown (ran.Refused c) left = λ p q. absurd p
RunsAs-prop (refuses code) ran.Unknown left = λ p q. absurd p
RunsAs-prop (refuses code) ran.Done left = λ p q. absurd p
RunsAs-prop (refuses code) (ran.Refused c) left = Coded-set coded_ℕ c code
RunsAs-prop (done m) ran.Unknown left = λ p q. absurd p
RunsAs-prop (done m) ran.Done left = Coded-set (finite.code (coded_list coded_ℕ) (coded_list coded_ℕ)) left m
RunsAs-prop (done m) (ran.Refused c) left = λ p q. absurd p

pub ran_as_picked : (held picked : Rules) (name args : Bytes) (why : Reason) (m left : Entries)
    (result : Result Ran Stop)
    → ∥ held ≡ picked ∥₁ → IfOk result (λ r. RunsAs (rules_mean held name args why m) r left)
    → IfOk result (λ r. RunsAs (rules_mean picked name args why m) r left)
ran_as_picked held picked name args why m left (Err e) same ran = ran
ran_as_picked held picked name args why m left (Ok r) same ran =
    ∥∥₁_elim same (RunsAs-prop (rules_mean picked name args why m) r left)
    (λ e. subst (λ rules. RunsAs (rules_mean rules name args why m) r left) e ran)
