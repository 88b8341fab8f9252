use Rattle.std.proofs.Common.{◌≡◌, ◌++◌, drop, option_map, string_bytes}
use Rattle.serde_json.specs.Data.{no_members}
use Rattle.serde_json.specs.View.{view as data_of, members_view}
use Rattle.rule_mutators.specs.Meaning.{text_at, members_at}
use Rattle.rule_mutators.specs.Views.{all_expressions, all_fields}
use Rattle.rule_mutators.proofs.evaluating.+value.Given as goal

-- the text so far, before the texts of what is left, is the whole text
abbrev pub invariant-cat_at-loop-e : goal.invariant-cat_at-loop-e
invariant-cat_at-loop-e g l =
    let contents = g.V.WriteView.contents in
    let args = data_of l.call.args.now in
    record {
      kept : contents l.view ≡ contents l.fn.view;
      text : option_map (λ t. string_bytes l.text ++ t)
          (text_at (all_expressions (drop l.e-index l.e-items)) args (contents l.fn.view))
          ≡ text_at (all_expressions l.e-items) args (contents l.fn.view);
    }

-- the members so far, with what is left put over them, are all the members
abbrev pub invariant-object_at-loop-field : goal.invariant-object_at-loop-field
invariant-object_at-loop-field g l =
    let contents = g.V.WriteView.contents in
    let args = data_of l.call.args.now in
    record {
      kept : contents l.view ≡ contents l.fn.view;
      members : members_at (all_fields (drop l.field-index l.field-items)) (members_view l.members.entries) args
          (contents l.fn.view)
          ≡ members_at (all_fields l.field-items) no_members args (contents l.fn.view);
    }
