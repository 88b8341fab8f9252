use Rattle.std.proofs.Common.{vec_len}
use Rattle.head_word.specs.Books.{drawn}
use Rattle.change_tries.specs.Going.{GoesOnReplaying}
use Rattle.change_tries.proofs.ending.go_on.Given as goal

-- the group ran the mutations so far
abbrev pub invariant-loop-mutation : goal.invariant-loop-mutation
invariant-loop-mutation g l = GoesOnReplaying g.M.Has.has g.M.Means.means (drawn l.at.mark.log) l.initial.now l.now

abbrev pub decreases-loop-mutation : goal.decreases-loop-mutation
decreases-loop-mutation g l = vec_len l.now.behind
