use Rattle.serde_json.specs.View.{view}
use Rattle.pull_patch.proofs.plain.values.pass_value.Goals as goal

pub returns-in-Vary-clause-read : goal.returns-in-Vary-clause-read
returns-in-Vary-clause-read c = record { tree = view c.in_ok-value.value; reads = c.in_ok-value.ensures.read }
