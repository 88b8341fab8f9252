use Rattle.serde_json.specs.View.{view}
use Rattle.pull_patch.proofs.CopiedTexts.{whole_from_text}
use Rattle.pull_patch.proofs.plain.values.read_by_tree.Goals as goal

pub returns-in-Ok-clause-read : goal.returns-in-Ok-clause-read
returns-in-Ok-clause-read c = record {
  tree = view c.in_ok-value.value;
  reads = c.in_ok-value.ensures.read;
  whole = whole_from_text (view c.in_ok-value.value) c.in-Ok.json c.in-Ok.ensures;
}
