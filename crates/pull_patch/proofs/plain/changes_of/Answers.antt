use Rattle.std.proofs.Common.{sym}
use Rattle.serde_json.specs.View.{view, members_view}
use Rattle.pull_patch.proofs.PlainResponses.{AreChanges-part}
use Rattle.pull_patch.proofs.plain.changes_of.Goals as goal

pub returns-in-Ok-Some-clause-read : goal.returns-in-Ok-Some-clause-read
returns-in-Ok-Some-clause-read c =
    AreChanges-part (view c.args.value.now) (members_view c.in-Some.members.now.entries) c.in-Ok-Some.changes.items
    (sym c.in-Some.ensures) (rw (c.in-Ok-Some.field-0-is) at c.in-Ok-Some.ensures.value)
