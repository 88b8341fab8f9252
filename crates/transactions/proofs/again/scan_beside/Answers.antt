use Rattle.std.proofs.Common.{[], ℕ, Option, ap, sym, subst}
use Rattle.group_history.specs.Refs.{stamp_of}
use Rattle.group_history.specs.Rows.{Rows}
use Rattle.group_history.proofs.Lists.{prefix_self}
use Rattle.map_chunks.specs.Scanning.{taken}
use Rattle.map_chunks.specs.Shown.{chunk_rows, rows_or}
use Rattle.transactions.specs.Rescans.{SoFar, HasFound, IsRescanned}
use Rattle.transactions.specs.Spans.{AreSpans}
use Rattle.transactions.proofs.SpanLemmas.{found_none, rescanned_is}
use Rattle.transactions.proofs.again.scan_beside.Goals as goal

pub returns-clause-found : goal.returns-clause-found
returns-clause-found g c all up spans =
    let now = g.C.Chunks.contents c.args.chunks.now in
    let scan = c.args.scan.now in
    let told = g.B.PreviousRows.rows in
    let is = c.requires.before in
    let known = subst (λ (rows : Rows). AreSpans scan all rows c.as_slice.result.now) is
    (subst (AreSpans scan all c.args.before.rows.now) (sym c.as_slice.ensures) spans) in
    let rows = rows_or (chunk_rows now (stamp_of c.args.at)) in
    let none = found_none scan all scan.limit c.new-again.result c.new-again.ensures in
    let took = (c.in_ok-take_child.ensures.more now all (prefix_self now) up known c.requires.tree).rows [] none in
    let end = subst (λ (room : Option ℕ). HasFound scan all c.take_child.new.again (taken scan room rows))
    (ap (λ (f : SoFar). f.room) c.new-again.ensures) took in
    let found = rescanned_is scan all told (taken scan scan.limit rows) c.take_child.new.again
    c.in_ok-into_rescanned.field-0 c.in_ok-into_rescanned.ensures.some c.in_ok-into_rescanned.ensures.same
    c.in_ok-into_rescanned.ensures.spans end in
    subst (λ (before : Rows). IsRescanned scan all before (taken scan scan.limit rows) c.in_ok-into_rescanned.field-0)
    (sym is) found
