use Rattle.std.proofs.Common.{rules, Ok, ap, ◌∙◌}
use Rattle.serde_json.specs.View.{view, items_view}
use Rattle.rule_mutators.specs.Answers.{IsFaultOf}
use Rattle.rule_mutators.specs.Inside.Parts.{parts_behind}
use Rattle.group_history.specs.Answers.{◌>>=◌}
use Rattle.rule_mutators.specs.Reading.{need_said, code_said, item_at}
use Rattle.rule_mutators.specs.declared.language.RuleStep.{the_lemmas}
use Rattle.rule_mutators.specs.Rules as rule
use Rattle.rule_mutators.specs.Views.{expression_of}
use Rattle.rule_mutators.proofs.Answering.{refuses_on}
use Rattle.rule_mutators.proofs.Parts.{first_refuses, second_refuses, need_said-at}
use Rattle.rule_mutators.proofs.reading.steps.read_need.Goals as goal

pub returns-in_err-test : goal.returns-in_err-test
returns-in_err-test c =
    let h : IsFaultOf c.in_err-test.field-0.0
    (need_said c.args.place.now (parts_behind c.args.place.now (items_view c.args.items.now)))
    = first_refuses _ c.args.place.now c.args.items.now c.index-items-1.result
    (λ both e. code_said (item_at c.args.place.now 2) both.1.value >>= (λ n. Ok (rule.need e n)))
    c.if-items-ne3.false c.index-items-1.is c.in_err-test.ensures in
    search rules

pub returns-in_err-read_code : goal.returns-in_err-read_code
returns-in_err-read_code c =
    let e = c.in_err-read_code.field-0.0 in
    let h : IsFaultOf e (need_said c.args.place.now (parts_behind c.args.place.now (items_view c.args.items.now)))
    = second_refuses e c.args.place.now c.args.items.now c.index-items-1.result c.index-items-2.result
    (expression_of c.in_ok-test.test)
    (λ both e. code_said (item_at c.args.place.now 2) both.1.value >>= (λ n. Ok (rule.need e n)))
    c.if-items-ne3.false c.index-items-1.is c.index-items-2.is c.in_ok-test.ensures
    (refuses_on e (code_said (item_at c.args.place.now 2) (view c.index-items-2.result))
    (λ n. Ok (rule.need (expression_of c.in_ok-test.test) n)) c.in_err-read_code.ensures) in
    search rules

pub returns : goal.returns
returns c =
    let at = need_said-at c.args.place.now c.args.items.now c.index-items-1.result c.index-items-2.result
    c.if-items-ne3.false c.index-items-1.is c.index-items-2.is in
    at ∙ ap (λ r. r >>= (λ e. code_said (item_at c.args.place.now 2) (view c.index-items-2.result)
    >>= (λ n. Ok (rule.need e n)))) c.in_ok-test.ensures
    ∙ ap (λ r. r >>= (λ n. Ok (rule.need (expression_of c.in_ok-test.test) n))) c.in_ok-read_code.ensures
    ∙ search (rules, the_lemmas)
