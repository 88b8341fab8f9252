use Rattle.head_word.specs.Books.{drawn}
use Rattle.change_tries.proofs.beginning.run_new.Given as goal

-- the nodes that the seat knows
abbrev pub ghosts-run_known : goal.ghosts-run_known
ghosts-run_known g a = record { known = drawn a.chunks.mark.now.log }
