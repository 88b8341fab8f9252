use Rattle.std.proofs.Common.{◌∙◌, sym}
use Rattle.serde_json.specs.Data.{string}
use Rattle.std.proofs.lemmas.Result.{on_ok_weaker}
use Rattle.pull_patch.proofs.Patches.{found_op, found_key, found_other}
use Rattle.pull_patch.proofs.plain.puts.read_text_field.Goals as goal

pub returns-then-is_word-clause-read : goal.returns-then-is_word-clause-read
returns-then-is_word-clause-read c = record {
  tree = string c.in_ok-read_text.field-0.now;
  reads = c.in_ok-read_text.ensures.read 124;
  found = λ ms h. found_op c.args.found.now c.in_ok-read_text.field-0 c.args.name.now ms
      (sym c.is_word.ensures ∙ c.if-is_word.true) h;
}

pub returns-then-is_word-2-clause-read : goal.returns-then-is_word-2-clause-read
returns-then-is_word-2-clause-read c = record {
  tree = string c.in_ok-read_text-2.field-0.now;
  reads = c.in_ok-read_text-2.ensures.read 124;
  found = λ ms h. found_key c.args.found.now c.in_ok-read_text-2.field-0 c.args.name.now ms
      (sym c.is_word-2.ensures ∙ c.if-is_word-2.true) h;
}

pub returns-clause-read : goal.returns-clause-read
returns-clause-read c =
    on_ok_weaker c.pass_value.result (λ done. record {
      tree = done.tree;
      reads = done.reads;
      found = λ ms h. found_other c.args.found.now done.tree c.args.name.now ms
          (sym c.is_word.ensures ∙ c.if-is_word.false)
          (sym c.is_word-2.ensures ∙ c.if-is_word-2.false) c.requires.other h;
    }) c.pass_value.ensures.read
