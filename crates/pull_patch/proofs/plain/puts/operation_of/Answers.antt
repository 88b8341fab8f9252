use Rattle.std.proofs.Common.{◌∙◌, sym, subst, IfSome, codes}
use Rattle.pull_patch.specs.Inside.Plain.{IsText, IsValue}
use Rattle.pull_patch.proofs.Patches.{IsOperation-put}
use Rattle.pull_patch.proofs.plain.puts.operation_of.Goals as goal

pub returns-in_ok-new-in-Some-Some : goal.returns-in_ok-new-in-Some-Some
returns-in_ok-new-in-Some-Some c ms h =
    rw c.in_ok-new-in-Some-Some.ensures
    (IsOperation-put ms c.in-Some.op.now c.in-Some-Some.key.now c.in-Some-Some.value
    (subst (λ o. IfSome o (λ s. IsText (codes "op") ms s.now)) c.in-Some.is h.op)
    (sym c.is_word.ensures ∙ c.if-not-is_word.false)
    (subst (λ o. IfSome o (λ s. IsText (codes "key") ms s.now)) c.in-Some-Some.is-0 h.key)
    (subst (λ o. IfSome o (λ t. IsValue ms t)) c.in-Some-Some.is-1 h.value))
