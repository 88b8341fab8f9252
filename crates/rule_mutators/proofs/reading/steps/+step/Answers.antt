use Rattle.std.proofs.Common.{rules, ◌≡◌, ◌<◌, ◌≤◌, ◌++◌, ◌∷◌, [], length, Ok, sym, ap, ◌∙◌}
use Rattle.serde_json.specs.View.{view, items_view}
use Rattle.rule_mutators.specs.Answers.{IsFaultOf}
use Rattle.rule_mutators.specs.Inside.Parts.{branches_behind}
use Rattle.group_history.specs.Answers.{◌>>=◌}
use Rattle.rule_mutators.specs.Reading.{choice_said, step_said, item_at}
use Rattle.rule_mutators.specs.declared.language.RuleStep.{the_lemmas}
use Rattle.rule_mutators.specs.Rules as rule
use Rattle.rule_mutators.specs.Views.{expression_of, step_of, all_steps}
use Rattle.rule_mutators.proofs.Parts.{choice-at, choice_first, choice_second, choice_third}
use Rattle.rule_mutators.proofs.Parts.{after_test, after_first}
use Rattle.rule_mutators.proofs.Turns.{steps-turn, steps-end}
use Rattle.rule_mutators.proofs.reading.steps.+step.Goals as goal

pub read_choice-returns-in_err-test : goal.read_choice-returns-in_err-test
read_choice-returns-in_err-test t c =
    let h : IsFaultOf c.in_err-test.field-0.0
    (choice_said c.args.place.now (branches_behind c.args.place.now (items_view c.args.items.now)))
    = choice_first _ c.args.place.now c.args.items.now c.index-items-1.result c.if-items-ne4.false c.index-items-1.is
    c.in_err-test.ensures in
    search rules

pub read_choice-returns-in_err-on_true : goal.read_choice-returns-in_err-on_true
read_choice-returns-in_err-on_true t c =
    let h : IsFaultOf c.in_err-on_true.field-0.0
    (choice_said c.args.place.now (branches_behind c.args.place.now (items_view c.args.items.now)))
    = choice_second _ c.args.place.now c.args.items.now c.index-items-1.result c.index-items-2.result
    (expression_of c.in_ok-test.test) c.if-items-ne4.false c.index-items-1.is c.index-items-2.is c.in_ok-test.ensures
    c.in_err-on_true.ensures in
    search rules

pub read_choice-returns-in_err-on_false : goal.read_choice-returns-in_err-on_false
read_choice-returns-in_err-on_false t c =
    let h : IsFaultOf c.in_err-on_false.field-0.0
    (choice_said c.args.place.now (branches_behind c.args.place.now (items_view c.args.items.now)))
    = choice_third _ c.args.place.now c.args.items.now c.index-items-1.result c.index-items-2.result
    c.index-items-3.result (expression_of c.in_ok-test.test) (all_steps c.in_ok-on_true.on_true.items)
    c.if-items-ne4.false c.index-items-1.is c.index-items-2.is c.index-items-3.is c.in_ok-test.ensures
    c.in_ok-on_true.ensures c.in_err-on_false.ensures in
    search rules

pub read_choice-returns : goal.read_choice-returns
read_choice-returns t c =
    let p = expression_of c.in_ok-test.test in
    let q = all_steps c.in_ok-on_true.on_true.items in
    choice-at c.args.place.now c.args.items.now c.index-items-1.result c.index-items-2.result c.index-items-3.result
    c.if-items-ne4.false c.index-items-1.is c.index-items-2.is c.index-items-3.is
    ∙ ap (λ r. r >>= after_test c.args.place.now c.index-items-2.result c.index-items-3.result) c.in_ok-test.ensures
    ∙ ap (λ r. r >>= after_first c.args.place.now c.index-items-3.result p) c.in_ok-on_true.ensures
    ∙ ap (λ r. r >>= (λ on_false. Ok (rule.choice p q on_false))) c.in_ok-on_false.ensures
    ∙ search (rules, the_lemmas)

pub read_list-loop-index-preserved : goal.read_list-loop-index-preserved
read_list-loop-index-preserved t c =
    let place = c.args.place.now in
    let x = c.in_ok-read_step.field-0 in
    let pushed : c.push.new.self.items ≡ c.loop-index.steps.items ++ x ∷ [] = search rules in
    let inside : c.loop-index.index < length c.args.items.now = search rules in
    let is : step_said (item_at place c.loop-index.index) (view c.index-items-index.result) ≡ Ok (step_of x)
    = search rules in
    steps-turn place c.loop-index.index c.args.items.now c.index-items-index.result c.loop-index.steps.items
    c.push.new.self.items x inside c.index-items-index.is is pushed ∙ c.loop-index.invariant

pub read_list-returns : goal.read_list-returns
read_list-returns t c =
    let over : length c.args.items.now ≤ c.loop-index.index = search rules in
    sym c.loop-index.invariant
    ∙ steps-end c.args.place.now c.loop-index.index c.args.items.now c.loop-index.steps.items over
