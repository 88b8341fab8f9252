use Rattle.head_word.specs.Books.{drawn}
use Rattle.change_tries.proofs.runs.get.Given as goal

-- the nodes that the seat knows
abbrev pub ghosts-get_on : goal.ghosts-get_on
ghosts-get_on g a = record { known = drawn a.chunks.mark.now.log }
