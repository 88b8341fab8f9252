use Rattle.std.proofs.Common.{rules, ◌≡◌, ◌++◌, ◌∷◌, [], map, Ok, sym, ap, ◌∙◌, string_bytes}
use Rattle.std.proofs.lemmas.List.{append-nil}
use Rattle.serde_json.specs.View.{view, members_view}
use Rattle.serde_json.proofs.Views.{Entry}
use Rattle.rule_mutators.specs.Reading.{named_said, rule_said}
use Rattle.rule_mutators.specs.Views.{rule_of}
use Rattle.rule_mutators.proofs.Turns.{rules_left, rules-turn}
use Rattle.rule_mutators.proofs.reading.read_named.Goals as goal

pub loop-name-preserved : goal.loop-name-preserved
loop-name-preserved c =
    let m : Entry = (c.in-Some.name.now, c.in-Some.value.now) in
    let x = c.in_ok-read_rule.field-0 in
    let is : rule_said (string_bytes m.0) (view m.1) ≡ Ok (rule_of x) = search rules in
    let pushed : c.push.new.self.items ≡ c.loop-name.rules.items ++ x ∷ [] = search rules in
    rules-turn c.loop-name.name-iterator c.next.new.self m c.loop-name.rules.items c.push.new.self.items x
    c.in-Some.ensures.steps is pushed ∙ c.loop-name.invariant

pub returns : goal.returns
returns c =
    let all : c.args.members.now.entries ≡ c.into_iter-name-iterator.result = search rules in
    ap (λ es. named_said (members_view es)) all ∙ sym c.loop-name.invariant
    ∙ ap (λ es. rules_left es c.loop-name.rules.items) c.in-None.ensures.steps.0
    ∙ ap Ok (append-nil (map rule_of c.loop-name.rules.items))
