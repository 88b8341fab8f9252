use Rattle.head_word.specs.Books.{drawn}
use Rattle.change_tries.proofs.views.root_at.Given as goal

-- the nodes that the mark knows
abbrev pub ghosts-root_known : goal.ghosts-root_known
ghosts-root_known g a = record { known = drawn a.nodes.mark.now.log }
