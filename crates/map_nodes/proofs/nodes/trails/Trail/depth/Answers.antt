use Rattle.std.proofs.Common.{arith, ap}
use Rattle.map_chunks.specs.Shown.{Seen}
use Rattle.map_nodes.proofs.TrailLemmas.{steps_depth}
use Rattle.map_nodes.proofs.nodes.trails.Trail.depth.Goals as goal

pub returns : goal.returns
returns c = omega (
  arith,
  c.len.ensures,
  c.self.inside.steps.ok.0,
  steps_depth c.self.inside.steps.items c.self.inside.end,
  ap (λ (s : Seen). s.depth) c.self.view_is,
)
