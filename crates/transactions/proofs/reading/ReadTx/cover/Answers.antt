use Rattle.std.proofs.Common.{IfOk, ap, subst, sym, ◌∙◌}
use Rattle.std.specs.FinMap as finite
use Rattle.group_history.specs.Refs.{stamp_of}
use Rattle.group_history.specs.Rows.{Rows}
use Rattle.map_chunks.specs.Covers.{Covers}
use Rattle.map_chunks.specs.Scanning.{scanned}
use Rattle.transactions.specs.Reads.{Read}
use Rattle.transactions.proofs.ReadLemmas.{version-same, read-kept, read_rows}
use Rattle.transactions.proofs.reading.ReadTx.cover.Goals as goal

pub invariant_of-self : goal.invariant_of-self
invariant_of-self g c =
    let m = g.N.Chunks.contents in let t = c.self.inside in
    let on = c.cover_placed.ensures.grown.1 in (
      read-kept (m t.nodes) (m c.cover_placed.new.chunks) (stamp_of t.head)
          (stamp_of t.root) c.cover_placed.ensures.grown.0 c.self.invariant.0,
      on t.head c.self.invariant.1,
      on t.root c.self.invariant.2,
    )

pub returns-clause-same : goal.returns-clause-same
returns-clause-same g c =
    let m = g.N.Chunks.contents in let t = c.self.inside in
    version-same (m t.nodes) (m c.cover_placed.new.chunks) (stamp_of t.head)
    (stamp_of t.root) c.cover_placed.ensures.grown.0 c.self.invariant.0 ∙ ap (λ (r : Read). r.version) c.self.view_is

pub returns-clause-cover : goal.returns-clause-cover
returns-clause-cover g c =
    let t = c.self.inside in let known = g.N.Chunks.contents t.nodes in let scan = c.args.scan.now in
    let root = read_rows known (stamp_of t.head) (stamp_of t.root) c.self.invariant.0 in
    subst (λ (r : Read). IfOk c.cover_placed.result (λ cover.
    Covers scan r.contents cover (scanned scan (finite.entries r.version.read))))
    c.self.view_is
    (subst (λ (rows : Rows). IfOk c.cover_placed.result (λ cover. Covers scan known cover (scanned scan rows)))
    (sym root.rows) c.cover_placed.ensures.cover)
