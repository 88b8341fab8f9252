use Rattle.std.proofs.Common.{◌≡◌, Some}
use Rattle.map_chunks.specs.Places.{Grows}
use Rattle.map_chunks.proofs.KeptLemmas.{IfAt}
use Rattle.group_history.specs.Refs.{stamp_of}
use Rattle.group_history.specs.Spelling.{Version, version_at}
use Rattle.commit_graph.proofs.Chained.{ahead}
use Rattle.commit_graph.proofs.Gathering.{IsGathered}
use Rattle.commit_graph.proofs.telling.last_ids_at.Given as goal

abbrev pub invariant-loop-next : goal.invariant-loop-next
invariant-loop-next g l = (v : Version) ×
    (version_at (g.N.Chunks.contents l.initial.nodes) (stamp_of l.fn.head) ≡ Some v)
    × IsGathered (g.N.Chunks.contents l.nodes) v.state l.next l.told l.newer.items
    × Grows g.N.Chunks.contents g.N.Chunks.places l.initial.nodes l.nodes × IfAt (g.N.Chunks.places l.nodes) l.next

abbrev pub decreases-loop-next : goal.decreases-loop-next
decreases-loop-next g l = ahead l.next
