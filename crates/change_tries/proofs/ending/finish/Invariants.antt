use Rattle.head_word.specs.Books.{drawn}
use Rattle.change_tries.proofs.ending.finish.Given as goal

-- the nodes that the seat knows
abbrev pub ghosts-add_replayed : goal.ghosts-add_replayed
ghosts-add_replayed g a = record { known = drawn a.setting.now.chunks.mark.now.log }
