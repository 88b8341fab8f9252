use Rattle.std.proofs.Common.{◌≡◌, take}
use Rattle.group_history.specs.Rows.{paired}
use Rattle.commit_graph.specs.Inside.Meeting.{choose}
use Rattle.commit_graph.proofs.meeting.chosen.Given as goal

abbrev pub invariant-loop-place : goal.invariant-loop-place
invariant-loop-place l = l.found ≡ choose l.key (paired (take l.place l.firsts) (take l.place l.children))
