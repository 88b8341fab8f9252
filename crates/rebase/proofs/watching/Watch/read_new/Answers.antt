use Rattle.std.proofs.Common.{Some, ap, subst, sym, ◌∙◌}
use Rattle.group_history.specs.Queries.{view_rows}
use Rattle.group_history.specs.Rows.{Rows}
use Rattle.head_word.specs.Books.{drawn}
use Rattle.head_word.proofs.BookLaws.{drawn_begins}
use Rattle.transactions.specs.Spans.{AreSpans}
use Rattle.transactions.proofs.SpanLemmas.{spans_known}
use Rattle.rebase.specs.Inside.Watching.{AreRead, rows_last_told}
use Rattle.rebase.specs.Readers.{read_by, seen_by}
use Rattle.rebase.specs.Watching.{Watched}
use Rattle.rebase.proofs.Polling.{if_none, if_some}
use Rattle.rebase.proofs.watching.Watch.read_new.Goals as goal

pub returns-clause-some : goal.returns-clause-some
returns-clause-some g c =
    let means = g.M.Means.means in let own = c.self.inside in let told = c.in-Some.told in
    let log = (seen_by c.args.tx.now).log in let all = c.mark_with-mark.result.log in
    let s = read_by c.args.tx.now in
    let read = subst (AreRead (drawn own.mark.log) own.scan) c.in-Some.is c.self.invariant in
    let known = subst (λ (rows : Rows). AreSpans own.scan (drawn all) rows told.spans) (sym c.as_slice.ensures)
    (spans_known own.scan (drawn own.mark.log) (drawn all) told.rows told.spans
    (drawn_begins own.mark.log all c.mark_with-mark.ensures.other) read.4) in
    let found = c.in_ok-others.ensures.found (drawn all) (drawn_begins log all c.mark_with-mark.ensures.own) known in
    if_some c.in_ok-others.field-0.others (λ rows is. is
    ∙ ap (λ (w : Watched). view_rows means s w.scan) c.self.view_is) found.some

pub returns-clause-same : goal.returns-clause-same
returns-clause-same g c =
    let means = g.M.Means.means in let own = c.self.inside in let told = c.in-Some.told in
    let log = (seen_by c.args.tx.now).log in let all = c.mark_with-mark.result.log in
    let s = read_by c.args.tx.now in
    let read = subst (AreRead (drawn own.mark.log) own.scan) c.in-Some.is c.self.invariant in
    let known = subst (λ (rows : Rows). AreSpans own.scan (drawn all) rows told.spans) (sym c.as_slice.ensures)
    (spans_known own.scan (drawn own.mark.log) (drawn all) told.rows told.spans
    (drawn_begins own.mark.log all c.mark_with-mark.ensures.other) read.4) in
    let found = c.in_ok-others.ensures.found (drawn all) (drawn_begins log all c.mark_with-mark.ensures.own) known in
    if_none c.in_ok-others.field-0.others (λ is. sym (ap (λ (w : Watched). w.last) c.self.view_is)
    ∙ ap rows_last_told c.in-Some.is ∙ ap (λ (rows : Rows). Some rows) (sym c.as_slice.ensures ∙ is)
    ∙ ap (λ (w : Watched). Some (view_rows means s w.scan)) c.self.view_is)
    found.same

pub returns-clause-spans : goal.returns-clause-spans
returns-clause-spans g c =
    let means = g.M.Means.means in let own = c.self.inside in let told = c.in-Some.told in
    let log = (seen_by c.args.tx.now).log in let all = c.mark_with-mark.result.log in
    let s = read_by c.args.tx.now in let spans = c.in_ok-others.field-0.spans in
    let read = subst (AreRead (drawn own.mark.log) own.scan) c.in-Some.is c.self.invariant in
    let known = subst (λ (rows : Rows). AreSpans own.scan (drawn all) rows told.spans) (sym c.as_slice.ensures)
    (spans_known own.scan (drawn own.mark.log) (drawn all) told.rows told.spans
    (drawn_begins own.mark.log all c.mark_with-mark.ensures.other) read.4) in
    let found = c.in_ok-others.ensures.found (drawn all) (drawn_begins log all c.mark_with-mark.ensures.own) known in
    subst (λ (w : Watched). AreSpans w.scan (drawn all) (view_rows means s w.scan) spans) c.self.view_is
    found.spans
