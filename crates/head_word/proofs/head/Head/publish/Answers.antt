use Rattle.std.proofs.Common.{rules}
use Rattle.head_word.proofs.head.Head.publish.Goals as goal

pub returns-else-add_move-clause-nothing : goal.returns-else-add_move-clause-nothing
returns-else-add_move-clause-nothing g c = search rules

pub returns-else-add_move-clause-moved : goal.returns-else-add_move-clause-moved
returns-else-add_move-clause-moved g c = search rules

pub returns-then-add_move-clause-nothing : goal.returns-then-add_move-clause-nothing
returns-then-add_move-clause-nothing g c = search rules

pub returns-then-add_move-clause-moved : goal.returns-then-add_move-clause-moved
returns-then-add_move-clause-moved g c = search rules
