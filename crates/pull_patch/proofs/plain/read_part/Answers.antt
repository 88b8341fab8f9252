use Rattle.std.proofs.Common.{◌∙◌, sym}
use Rattle.serde_json.specs.Data.{array}
use Rattle.pull_patch.proofs.PlainResponses.{parts_patch}
use Rattle.pull_patch.proofs.plain.read_part.Goals as goal

pub returns-then-eq-clause-read : goal.returns-then-eq-clause-read
returns-then-eq-clause-read c =
    let done = c.in_ok-read_patch.ensures.read in record {
      tree = array done.tree;
      reads = done.reads;
      parts = λ ms h. parts_patch c.args.parts.now c.in_ok-read_patch.field-0 done.tree c.args.name.now ms
          (sym c.eq.ensures ∙ c.if-eq.true) done.say h;
    }
