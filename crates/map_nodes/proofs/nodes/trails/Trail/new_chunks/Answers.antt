use Rattle.std.proofs.Common.{arith, ap}
use Rattle.map_chunks.specs.Shown.{fresh}
use Rattle.map_nodes.proofs.TrailLemmas.{steps_fresh}
use Rattle.map_nodes.proofs.nodes.trails.Trail.new_chunks.Goals as goal

pub returns : goal.returns
returns c = omega (
  arith,
  c.len.ensures,
  c.self.inside.steps.ok.0,
  steps_fresh c.self.inside.steps.items c.self.inside.end c.self.invariant,
  ap fresh c.self.view_is,
)
