use Rattle.std.proofs.Common.{IfOk, ap, subst, sym, ◌∙◌}
use Rattle.group_history.specs.Refs.{stamp_of}
use Rattle.group_history.specs.Rows.{Rows}
use Rattle.group_history.specs.Scans.{rows_of}
use Rattle.group_history.specs.Spelling.{Contents}
use mathlib.Core.List.{IsPrefix}
use Rattle.map_chunks.specs.Scanning.{taken}
use Rattle.transactions.specs.Reads.{Read}
use Rattle.transactions.specs.Rescans.{IsRescanned}
use Rattle.transactions.specs.Spans.{AreSpans}
use Rattle.transactions.proofs.ReadLemmas.{version-same, read-kept, read_rows}
use Rattle.transactions.proofs.reading.ReadTx.scan_again.Goals as goal

pub invariant_of-self : goal.invariant_of-self
invariant_of-self g c =
    let m = g.N.Chunks.contents in let t = c.self.inside in
    let on = c.scan_again.ensures.grown.1 in (
      read-kept (m t.nodes) (m c.scan_again.new.chunks) (stamp_of t.head)
          (stamp_of t.root) c.scan_again.ensures.grown.0 c.self.invariant.0,
      on t.head c.self.invariant.1,
      on t.root c.self.invariant.2,
    )

pub returns-clause-same : goal.returns-clause-same
returns-clause-same g c =
    let m = g.N.Chunks.contents in let t = c.self.inside in
    version-same (m t.nodes) (m c.scan_again.new.chunks) (stamp_of t.head)
    (stamp_of t.root) c.scan_again.ensures.grown.0 c.self.invariant.0 ∙ ap (λ (r : Read). r.version) c.self.view_is

pub returns-clause-found : goal.returns-clause-found
returns-clause-found g c =
    let t = c.self.inside in let known = g.N.Chunks.contents t.nodes in let scan = c.args.scan.now in
    let told = c.args.before.now in let root = read_rows known (stamp_of t.head) (stamp_of t.root) c.self.invariant.0 in
    subst (λ (r : Read). IfOk c.scan_again.result (λ found. (all : Contents) → IsPrefix r.contents all
    → AreSpans scan all told c.args.known.now
    → IsRescanned scan all told (rows_of scan r.version.read) found)) c.self.view_is
    (subst (λ (rows : Rows). IfOk c.scan_again.result (λ found. (all : Contents) → IsPrefix known all
    → AreSpans scan all told c.args.known.now → IsRescanned scan all told (taken scan scan.limit rows) found))
    (sym root.rows) c.scan_again.ensures.found)
