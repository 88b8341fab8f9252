use Rattle.std.proofs.Common.{◌∙◌, sym, ap}
use Rattle.serde_json.specs.View.{view}
use Rattle.group_history.specs.Json.{reading}
use Rattle.pull_patch.proofs.CopiedTexts.{PassesValue-plain, ReadsValue-read}
use Rattle.pull_patch.proofs.plain.values.pass_by_copy.Goals as goal

pub returns-then-plain-clause-read : goal.returns-then-plain-clause-read
returns-then-plain-clause-read c =
    PassesValue-plain c.args.depth c.args.reader.now c.copy_text.new.reader c.copy_text.new.text.items
    c.in_ok-plain.plain c.in_ok-plain.ensures.copied c.if-plain.true

pub returns-in-Ok-clause-read : goal.returns-in-Ok-clause-read
returns-in-Ok-clause-read c = record {
  tree = view c.in-Ok.value;
  reads = ReadsValue-read c.args.depth c.args.reader.now c.copy_text.new.reader c.copy_text.new.text.items
      (view c.in-Ok.value) c.in_ok-plain.plain c.in_ok-plain.ensures.copied c.requires
      (ap reading (sym c.deref.ensures.value) ∙ c.in-Ok.ensures.value);
}
