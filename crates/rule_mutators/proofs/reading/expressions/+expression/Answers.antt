use Rattle.std.proofs.Common.{rules, ◌≡◌, ◌<◌, ◌≤◌, ◌++◌, ◌∷◌, [], length, Ok, sym, ap, ◌∙◌, string_bytes}
use Rattle.serde_json.specs.View.{view, items_view, members_view}
use Rattle.serde_json.proofs.Views.{Entry}
use Rattle.rule_mutators.specs.Answers.{IsFaultOf}
use Rattle.rule_mutators.specs.Inside.Parts.{parts_behind}
use Rattle.rule_mutators.specs.Reading.{two_said, field_said, fields_said, expression_said, name_said, item_at}
use Rattle.group_history.specs.Answers.{◌>>=◌}
use Rattle.rule_mutators.specs.Reading.{member_at}
use Rattle.rule_mutators.specs.Rules as rule
use Rattle.rule_mutators.specs.Views.{expression_of}
use Rattle.rule_mutators.proofs.Answering.{refuses_on}
use Rattle.rule_mutators.proofs.Parts.{first_refuses, second_refuses, field_said-at}
use Rattle.rule_mutators.proofs.Turns.{expressions-turn, expressions-end, fields_left, fields-turn, fields_before-none}
use Rattle.rule_mutators.proofs.reading.expressions.+expression.Goals as goal

pub read_two-returns-in_err-first : goal.read_two-returns-in_err-first
read_two-returns-in_err-first t c =
    let h : IsFaultOf c.in_err-first.field-0.0
    (two_said c.args.place.now (parts_behind c.args.place.now (items_view c.args.items.now)))
    = first_refuses _ c.args.place.now c.args.items.now c.index-items-1.result
    (λ both e. both.1.said >>= (λ f. Ok (e, f))) c.if-items-ne3.false c.index-items-1.is c.in_err-first.ensures in
    search rules

pub read_two-returns-in_err-second : goal.read_two-returns-in_err-second
read_two-returns-in_err-second t c =
    let e = c.in_err-second.field-0.0 in
    let h : IsFaultOf e (two_said c.args.place.now (parts_behind c.args.place.now (items_view c.args.items.now)))
    = second_refuses e c.args.place.now c.args.items.now c.index-items-1.result c.index-items-2.result
    (expression_of c.in_ok-first.first) (λ both e. both.1.said >>= (λ f. Ok (e, f))) c.if-items-ne3.false
    c.index-items-1.is c.index-items-2.is c.in_ok-first.ensures
    (refuses_on e (expression_said (item_at c.args.place.now 2) (view c.index-items-2.result))
    (λ f. Ok (expression_of c.in_ok-first.first, f)) c.in_err-second.ensures) in
    search rules

pub read_field-returns-in_err-of : goal.read_field-returns-in_err-of
read_field-returns-in_err-of t c =
    let h : IsFaultOf c.in_err-of.field-0.0
    (field_said c.args.place.now (parts_behind c.args.place.now (items_view c.args.items.now)))
    = first_refuses _ c.args.place.now c.args.items.now c.index-items-1.result
    (λ both e. name_said (item_at c.args.place.now 2) both.1.value >>= (λ s. Ok (rule.field e s)))
    c.if-items-ne3.false c.index-items-1.is c.in_err-of.ensures in
    search rules

pub read_field-returns-in_err-name : goal.read_field-returns-in_err-name
read_field-returns-in_err-name t c =
    let e = c.in_err-name.field-0.0 in
    let h : IsFaultOf e (field_said c.args.place.now (parts_behind c.args.place.now (items_view c.args.items.now)))
    = second_refuses e c.args.place.now c.args.items.now c.index-items-1.result c.index-items-2.result
    (expression_of c.in_ok-of.of)
    (λ both e. name_said (item_at c.args.place.now 2) both.1.value >>= (λ s. Ok (rule.field e s)))
    c.if-items-ne3.false c.index-items-1.is c.index-items-2.is c.in_ok-of.ensures
    (refuses_on e (name_said (item_at c.args.place.now 2) (view c.index-items-2.result))
    (λ s. Ok (rule.field (expression_of c.in_ok-of.of) s)) c.in_err-name.ensures) in
    search rules

pub read_field-returns : goal.read_field-returns
read_field-returns t c =
    let at = field_said-at c.args.place.now c.args.items.now c.index-items-1.result c.index-items-2.result
    c.if-items-ne3.false c.index-items-1.is c.index-items-2.is in
    at ∙ ap (λ r. r >>= (λ e. name_said (item_at c.args.place.now 2) (view c.index-items-2.result)
    >>= (λ s. Ok (rule.field e s)))) c.in_ok-of.ensures
    ∙ ap (λ r. r >>= (λ s. Ok (rule.field (expression_of c.in_ok-of.of) s))) c.in_ok-name.ensures
    ∙ ap Ok (sym c.in_ok-field.ensures)

pub read_all-loop-index-preserved : goal.read_all-loop-index-preserved
read_all-loop-index-preserved t c =
    let pushed : c.push.new.self.items ≡ c.loop-index.all.items ++ c.in_ok-read_part.field-0 ∷ [] = search rules in
    let inside : c.loop-index.index < length c.args.items.now = search rules in
    expressions-turn c.args.place.now c.loop-index.index c.args.items.now c.index-items-index.result
    c.loop-index.all.items c.push.new.self.items c.in_ok-read_part.field-0 inside c.index-items-index.is
    c.in_ok-read_part.ensures pushed ∙ c.loop-index.invariant

pub read_all-returns : goal.read_all-returns
read_all-returns t c =
    let over : length c.args.items.now ≤ c.loop-index.index = search rules in
    sym c.loop-index.invariant
    ∙ expressions-end c.args.place.now c.loop-index.index c.args.items.now c.loop-index.all.items over

pub read_fields-loop-name-preserved : goal.read_fields-loop-name-preserved
read_fields-loop-name-preserved t c =
    let m : Entry = (c.in-Some.name.now, c.in-Some.value.now) in
    let place = c.args.place.now in
    let x = c.in_ok-read_member.field-0 in
    let is : expression_said (member_at place (string_bytes m.0)) (view m.1) ≡ Ok (expression_of x.1) = search rules in
    let named : x.0 ≡ string_bytes m.0 = search rules in
    let pushed : c.push.new.self.items ≡ c.loop-name.fields.items ++ x ∷ [] = search rules in
    fields-turn place c.loop-name.name-iterator c.next.new.self m c.loop-name.fields.items c.push.new.self.items x
    c.in-Some.ensures.steps named is pushed ∙ c.loop-name.invariant

pub read_fields-returns : goal.read_fields-returns
read_fields-returns t c =
    let all : c.args.members.now.entries ≡ c.into_iter-name-iterator.result = search rules in
    ap (λ es. fields_said c.args.place.now (members_view es)) all ∙ sym c.loop-name.invariant
    ∙ ap (λ es. fields_left c.args.place.now es c.loop-name.fields.items) c.in-None.ensures.steps.0
    ∙ ap Ok (fields_before-none c.loop-name.fields.items)
