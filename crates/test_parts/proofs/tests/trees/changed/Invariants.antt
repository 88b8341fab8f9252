use Rattle.std.proofs.Common.{map}
use Rattle.group_history.specs.Naming.{content_of}
use Rattle.test_parts.proofs.tests.trees.changed.Given as goal

-- the nodes at hand
abbrev pub ghosts-changed_staged : goal.ghosts-changed_staged
ghosts-changed_staged a = record { known = map content_of a.chunks.nodes.now }
