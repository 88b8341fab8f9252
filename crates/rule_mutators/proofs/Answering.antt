-- A fault stays the answer, whatever would have been read behind it.
use Rattle.std.proofs.Common.{◌≡◌, sym, ap, subst}
use Rattle.std.specs.Prelude.{Result}
use Rattle.rule_mutators.specs.declared.faults.RuleFault.{RuleFault}
use Rattle.rule_mutators.specs.declared.faults.RuleFault.TheVariants.{NoMemory, NotJson, NotObject, At}
use Rattle.rule_mutators.specs.Answers.{IsFaultOf}
use Rattle.group_history.specs.Answers.{◌>>=◌}

pub refuses_on : {A B : Type 0} (e : RuleFault) (x : Result A RuleFault) (f : A → Result B RuleFault) → IsFaultOf e x
    → IsFaultOf e (x >>= f)
refuses_on NoMemory x f h = tt
refuses_on NotJson x f h = ap (λ r. r >>= f) h
refuses_on NotObject x f h = ap (λ r. r >>= f) h
refuses_on (At place what) x f h = ap (λ r. r >>= f) h

pub refuses_by : {A : Type 0} (e : RuleFault) (x y : Result A RuleFault) → y ≡ x → IsFaultOf e x → IsFaultOf e y
refuses_by e x y same h = subst (λ r. IsFaultOf e r) (sym same) h
