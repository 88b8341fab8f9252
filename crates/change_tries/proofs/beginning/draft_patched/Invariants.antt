use Rattle.head_word.specs.Books.{drawn}
use Rattle.change_tries.proofs.beginning.draft_patched.Given as goal

-- the nodes that the seat knows
abbrev pub ghosts-add_patched : goal.ghosts-add_patched
ghosts-add_patched g a = record { known = drawn a.setting.now.chunks.mark.now.log }
