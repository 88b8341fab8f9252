use Rattle.std.proofs.Common.{◌∙◌, sym}
use Rattle.pull_patch.proofs.Patches.{found_value}
use Rattle.pull_patch.proofs.plain.puts.read_field.Goals as goal

pub returns-then-is_word-clause-read : goal.returns-then-is_word-clause-read
returns-then-is_word-clause-read c =
    let done = c.in_ok-read_json.ensures.read in record {
      tree = done.tree;
      reads = done.reads;
      found = λ ms h. found_value c.args.found.now c.in_ok-read_json.field-0 done.tree c.args.name.now ms
          (sym c.is_word.ensures ∙ c.if-is_word.true) done.whole h;
    }
