use Rattle.head_word.specs.Books.{drawn}
use Rattle.change_tries.proofs.requests.begin_mutated_there.Given as goal

-- the nodes that the seat knows
abbrev pub ghosts-look_at : goal.ghosts-look_at
ghosts-look_at g a = record { known = drawn a.nodes.mark.now.log }
