use Rattle.std.proofs.Common.{sym, subst, []}
use Rattle.map_chunks.specs.Places.{AreKept, places_of}
use Rattle.group_history.specs.Refs.{stamp_of}
use Rattle.map_chunks.specs.Shown.{Seen}
use Rattle.map_nodes.specs.Levels.{placed_levels, seen_levels, CopiedLater}
use Rattle.map_nodes.proofs.nodes.OwnNode.copied_child.Goals as goal

pub returns-clause-places : goal.returns-clause-places
returns-clause-places g c =
    subst (λ (s : Seen). AreKept (g.C.Chunks.places c.copied.new.chunks) [] (places_of s.pieces))
    (sym c.in_ok-boxed.ensures) c.in_ok-node.ensures.places

pub returns-clause-levels : goal.returns-clause-levels
returns-clause-levels g c =
    subst (λ (s : Seen). CopiedLater (g.C.Chunks.contents c.copied.new.chunks)
    (λ p. placed_levels p c.args.depth (stamp_of c.args.at)) (seen_levels s))
    (sym c.in_ok-boxed.ensures) c.in_ok-node.ensures.levels
