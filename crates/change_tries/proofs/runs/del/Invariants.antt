use Rattle.head_word.specs.Books.{drawn}
use Rattle.change_tries.proofs.runs.del.Given as goal

-- the nodes that the seat knows
abbrev pub ghosts-del_on : goal.ghosts-del_on
ghosts-del_on g a = record { known = drawn a.chunks.mark.now.log }
