use Rattle.std.proofs.Common.{List}
use Rattle.serde_json.specs.View.{members_view}
use Rattle.group_history.specs.Pull.{AreInRange}
use Rattle.pull_patch.specs.Fields.{members_list}
use Rattle.pull_patch.specs.Changes.{Entry, entry_of, confirmed_said}
use Rattle.pull_patch.proofs.Eaches.{Gave, Gathered}
use Rattle.pull_patch.proofs.changes.read_changes.Given as goal

abbrev pub invariant-loop-name : goal.invariant-loop-name
invariant-loop-name l =
    (done : List Entry) × Gave entry_of (members_list (members_view l.initial.name-iterator)) done
    (members_list (members_view l.name-iterator))
    × Gathered confirmed_said done l.whole l.changes.items × AreInRange l.changes.items
