use Rattle.std.proofs.Common.{map}
use Rattle.group_history.specs.Naming.{content_of}
use Rattle.test_parts.proofs.tests.groups.add_rebased.Given as goal

-- the nodes at hand
abbrev pub ghosts-look_at : goal.ghosts-look_at
ghosts-look_at a = record { known = map content_of a.nodes.nodes.now }

abbrev pub ghosts-base_at : goal.ghosts-base_at
ghosts-base_at a = record { known = map content_of a.nodes.nodes.now }

abbrev pub ghosts-add_patched : goal.ghosts-add_patched
ghosts-add_patched a = record { known = map content_of a.setting.now.chunks.nodes.now }

abbrev pub ghosts-run_pending : goal.ghosts-run_pending
ghosts-run_pending a = record { known = map content_of a.setting.now.chunks.nodes.now }

abbrev pub ghosts-add_replayed : goal.ghosts-add_replayed
ghosts-add_replayed a = record { known = map content_of a.setting.now.chunks.nodes.now }
