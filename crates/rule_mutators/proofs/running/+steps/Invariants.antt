use Rattle.std.proofs.Common.{◌≡◌, drop}
use Rattle.serde_json.specs.View.{view as data_of}
use Rattle.rule_mutators.specs.Meaning.{steps_mean}
use Rattle.rule_mutators.specs.Views.{all_steps}
use Rattle.rule_mutators.proofs.running.+steps.Given as goal

-- what is left means at the map so far what all means at the first map
abbrev pub invariant-run_steps-loop-step : goal.invariant-run_steps-loop-step
invariant-run_steps-loop-step g l =
    let contents = g.V.WriteView.contents in
    let args = data_of l.call.args.now in
    steps_mean (all_steps (drop l.step-index l.step-items)) args (contents l.view)
    ≡ steps_mean (all_steps l.step-items) args (contents l.fn.view)
