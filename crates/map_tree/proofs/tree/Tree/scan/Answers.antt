use Rattle.std.proofs.Common.{[]}
use Rattle.map_tree.proofs.tree.Tree.scan.Goals as goal

pub returns-clause-rows : goal.returns-clause-rows
returns-clause-rows g c m h = c.in_ok-scan_into.ensures.rows m h [] c.new-rows.ensures.items
