use Rattle.head_word.specs.Books.{drawn}
use Rattle.change_tries.proofs.beginning.begin_rebase.Given as goal

-- the nodes that the seat knows
abbrev pub ghosts-left_at : goal.ghosts-left_at
ghosts-left_at g a = record { known = drawn a.nodes.mark.now.log }
