use Rattle.head_word.specs.Books.{drawn}
use Rattle.change_tries.proofs.ending.replay_next.Given as goal

-- the nodes that the seat knows
abbrev pub ghosts-replay_on : goal.ghosts-replay_on
ghosts-replay_on g a = record { known = drawn a.setting.now.chunks.mark.now.log }
