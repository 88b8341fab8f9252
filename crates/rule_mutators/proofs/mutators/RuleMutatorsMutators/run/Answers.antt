use Rattle.rule_mutators.specs.Views.{rules_of}
use Rattle.rule_mutators.proofs.PickedRules.{ran_as_picked}
use Rattle.rule_mutators.proofs.mutators.RuleMutatorsMutators.run.Goals as goal

pub returns-clause-ran : goal.returns-clause-ran
returns-clause-ran g c =
    ran_as_picked (rules_of c.args.self.now.rules) g.B.NamesRules.rules c.args.name.now c.args.args.now c.args.why
    (g.V.WriteView.contents c.args.view.now) (g.V.WriteView.contents c.run.new.view) c.run.result
    c.args.self.now.named c.run.ensures.ran
