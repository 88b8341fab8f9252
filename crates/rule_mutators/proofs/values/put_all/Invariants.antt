use Rattle.std.proofs.Common.{◌≡◌}
use Rattle.serde_json.specs.View.{members_view}
use Rattle.rule_mutators.specs.Meaning.{put_all}
use Rattle.rule_mutators.proofs.values.put_all.Given as goal

-- what is left to put leads to the same members
abbrev pub invariant-loop-name : goal.invariant-loop-name
invariant-loop-name l =
    put_all (members_view l.name-iterator) (members_view l.members.entries)
    ≡ put_all (members_view l.initial.name-iterator) (members_view l.fn.members.entries)
