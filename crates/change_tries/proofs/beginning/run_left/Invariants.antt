use Rattle.head_word.specs.Books.{drawn}
use Rattle.change_tries.proofs.beginning.run_left.Given as goal

-- the nodes that the seat knows
abbrev pub ghosts-run_pending : goal.ghosts-run_pending
ghosts-run_pending g a = record { known = drawn a.setting.now.chunks.mark.now.log }
