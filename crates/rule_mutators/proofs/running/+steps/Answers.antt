use Rattle.std.proofs.Common.{rules, arith}
use Rattle.std.proofs.lemmas.Grind.{common_steps}
use Rattle.rule_mutators.specs.declared.language.RuleStep.{the_lemmas}
use Rattle.rule_mutators.proofs.running.+steps.Goals as goal

pub run_steps-returns-in_default : goal.run_steps-returns-in_default
run_steps-returns-in_default g t c = grind (arith, common_steps)

pub run_step-returns-in-Ok-Some-true-clause-ran : goal.run_step-returns-in-Ok-Some-true-clause-ran
run_step-returns-in-Ok-Some-true-clause-ran g t c = search (rules, the_lemmas)
