use Rattle.head_word.specs.Books.{drawn}
use Rattle.change_tries.proofs.runs.scan.Given as goal

-- the nodes that the seat knows
abbrev pub ghosts-scan_on : goal.ghosts-scan_on
ghosts-scan_on g a = record { known = drawn a.chunks.mark.now.log }
