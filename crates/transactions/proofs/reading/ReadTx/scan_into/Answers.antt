use Rattle.std.proofs.Common.{ap, subst, sym, ◌∙◌}
use Rattle.group_history.specs.Refs.{stamp_of}
use Rattle.transactions.specs.Reads.{Read}
use Rattle.transactions.proofs.ReadLemmas.{version-same, read-kept}
use Rattle.map_chunks.specs.Places.{AreAll}
use Rattle.transactions.proofs.KnownLemmas.{one_may}
use Rattle.transactions.proofs.reading.ReadTx.scan_into.Goals as goal

pub invariant_of-self : goal.invariant_of-self
invariant_of-self g c =
    let m = g.N.Chunks.contents in let t = c.self.inside in
    let on = c.scan_into.ensures.grown.1 in (
      read-kept (m t.nodes) (m c.scan_into.new.chunks) (stamp_of t.head)
          (stamp_of t.root) c.scan_into.ensures.grown.0 c.self.invariant.0,
      on t.head c.self.invariant.1,
      on t.root c.self.invariant.2,
    )

pub returns-clause-same : goal.returns-clause-same
returns-clause-same g c =
    let m = g.N.Chunks.contents in let t = c.self.inside in
    version-same (m t.nodes) (m c.scan_into.new.chunks) (stamp_of t.head)
    (stamp_of t.root) c.scan_into.ensures.grown.0 c.self.invariant.0 ∙ ap (λ (r : Read). r.version) c.self.view_is

pub scan_into-requires-clause-places : goal.scan_into-requires-clause-places
scan_into-requires-clause-places g c = let may = g.N.Chunks.places c.self.inside.nodes in
    subst (AreAll may) (sym c.at.ensures.places) (one_may may c.self.inside.root c.self.invariant.2)
