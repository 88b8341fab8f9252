use Rattle.std.proofs.Common.{subst, sym}
use Rattle.group_history.specs.Refs.{stamp_of}
use Rattle.map_chunks.specs.Shown.{Seen}
use Rattle.map_nodes.specs.Levels.{placed_levels, seen_levels, CopiedLater}
use Rattle.map_nodes.proofs.roots.OwnRoot.copied.Goals as goal

pub returns-clause-levels : goal.returns-clause-levels
returns-clause-levels g c =
    subst (λ (s : Seen). CopiedLater (g.C.Chunks.contents c.copied.new.chunks)
    (λ p. placed_levels p c.args.depth (stamp_of c.args.at)) (seen_levels s))
    (sym c.new.ensures) c.in_ok-node.ensures.levels
