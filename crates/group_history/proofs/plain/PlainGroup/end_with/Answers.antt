use Rattle.std.proofs.Common.{rules}
use Rattle.group_history.proofs.plain.PlainGroup.end_with.Goals as goal

pub returns-then-is_going_back-clause-answer : goal.returns-then-is_going_back-clause-answer
returns-then-is_going_back-clause-answer g c = search rules

pub returns-in-Less-clause-answer : goal.returns-in-Less-clause-answer
returns-in-Less-clause-answer g c = search rules

pub returns-after-is_saying_nothing-clause-answer : goal.returns-after-is_saying_nothing-clause-answer
returns-after-is_saying_nothing-clause-answer g c = search rules

pub returns-in_ok-apply-in-Greater-clause-answer : goal.returns-in_ok-apply-in-Greater-clause-answer
returns-in_ok-apply-in-Greater-clause-answer g c = search rules
