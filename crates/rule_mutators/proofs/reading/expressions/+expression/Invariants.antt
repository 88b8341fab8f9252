use Rattle.std.proofs.Common.{◌≡◌, drop}
use Rattle.serde_json.specs.View.{items_view, members_view}
use Rattle.rule_mutators.specs.Reading.{all_said, fields_said}
use Rattle.rule_mutators.specs.Inside.Parts.{parts_behind}
use Rattle.rule_mutators.proofs.Turns.{expressions_left, fields_left}
use Rattle.rule_mutators.proofs.reading.expressions.+expression.Given as goal

-- what was read, before what is left, is what all say
abbrev pub invariant-read_all-loop-index : goal.invariant-read_all-loop-index
invariant-read_all-loop-index l =
    expressions_left l.place l.index (drop l.index l.items) l.all.items
    ≡ all_said (parts_behind l.place (items_view l.items))

abbrev pub invariant-read_fields-loop-name : goal.invariant-read_fields-loop-name
invariant-read_fields-loop-name l =
    fields_left l.place l.name-iterator l.fields.items ≡ fields_said l.place (members_view l.initial.name-iterator)
