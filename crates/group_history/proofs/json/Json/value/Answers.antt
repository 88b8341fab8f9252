use Rattle.std.proofs.Common.{◌≡◌, Ok, rules}
use Rattle.serde_json.specs.View.{view}
use Rattle.group_history.specs.Json.{text_of}
use Rattle.group_history.proofs.Readings.{HasText-text_of}
use Rattle.group_history.proofs.json.Json.value.Goals as goal

pub returns-in-Ok-clause-shallow : goal.returns-in-Ok-clause-shallow
returns-in-Ok-clause-shallow c =
    let text : text_of (view c.in-Ok.value) ≡ Ok c.args.self.now = search rules in (HasText-text_of _ _ text).0

pub returns-in-Ok-clause-whole : goal.returns-in-Ok-clause-whole
returns-in-Ok-clause-whole c =
    let text : text_of (view c.in-Ok.value) ≡ Ok c.args.self.now = search rules in (HasText-text_of _ _ text).1
