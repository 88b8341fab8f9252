use Rattle.head_word.specs.Books.{drawn}
use Rattle.change_tries.proofs.requests.begin_pull.Given as goal

-- the nodes that the seat knows
abbrev pub ghosts-base_at : goal.ghosts-base_at
ghosts-base_at g a = record { known = drawn a.nodes.mark.now.log }
