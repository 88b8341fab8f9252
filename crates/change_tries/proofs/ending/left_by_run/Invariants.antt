use Rattle.head_word.specs.Books.{drawn}
use Rattle.change_tries.proofs.ending.left_by_run.Given as goal

-- the nodes that the seat knows
abbrev pub ghosts-ended_on : goal.ghosts-ended_on
ghosts-ended_on g a = record { known = drawn a.chunks.mark.now.log }
