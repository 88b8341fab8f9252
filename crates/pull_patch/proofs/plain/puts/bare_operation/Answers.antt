use Rattle.std.proofs.Common.{◌∙◌, sym, subst, IfSome, codes}
use Rattle.pull_patch.specs.Inside.Plain.{IsText}
use Rattle.pull_patch.proofs.Patches.{IsOperation-clear, IsOperation-del}
use Rattle.pull_patch.proofs.plain.puts.bare_operation.Goals as goal

pub returns-then-is_word : goal.returns-then-is_word
returns-then-is_word c ms op key = IsOperation-clear ms c.args.op.now op (sym c.is_word.ensures ∙ c.if-is_word.true)

pub returns-then-is_word-2 : goal.returns-then-is_word-2
returns-then-is_word-2 c ms op key =
    rw c.in_ok-new.ensures
    (IsOperation-del ms c.args.op.now c.in-Some.key.now op (sym c.is_word-2.ensures ∙ c.if-is_word-2.true)
    (subst (λ o. IfSome o (λ s. IsText (codes "key") ms s.now)) c.in-Some.is key))
