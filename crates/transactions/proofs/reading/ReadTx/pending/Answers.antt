use Rattle.std.proofs.Common.{ap, ◌∙◌}
use Rattle.group_history.specs.Refs.{stamp_of}
use Rattle.transactions.specs.Reads.{Read}
use Rattle.transactions.proofs.ReadLemmas.{version-same, read-kept}
use Rattle.transactions.proofs.reading.ReadTx.pending.Goals as goal

pub invariant_of-self : goal.invariant_of-self
invariant_of-self g c =
    let m = g.N.Chunks.contents in let t = c.self.inside in
    let on = c.walk.ensures.grown.1 in (
      read-kept (m t.nodes) (m c.walk.new.nodes) (stamp_of t.head)
          (stamp_of t.root) c.walk.ensures.grown.0 c.self.invariant.0,
      on t.head c.self.invariant.1,
      on t.root c.self.invariant.2,
    )

pub returns-clause-same : goal.returns-clause-same
returns-clause-same g c =
    let m = g.N.Chunks.contents in let t = c.self.inside in
    version-same (m t.nodes) (m c.walk.new.nodes) (stamp_of t.head)
    (stamp_of t.root) c.walk.ensures.grown.0 c.self.invariant.0 ∙ ap (λ (r : Read). r.version) c.self.view_is
