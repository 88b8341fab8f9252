use Rattle.head_word.specs.Books.{drawn}
use Rattle.change_tries.proofs.runs.put.Given as goal

-- the nodes that the seat knows
abbrev pub ghosts-put_on : goal.ghosts-put_on
ghosts-put_on g a = record { known = drawn a.chunks.mark.now.log }
