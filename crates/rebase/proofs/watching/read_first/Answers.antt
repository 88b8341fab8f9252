use Rattle.std.proofs.Common.{◌≡◌, ap, subst, sym, ◌∙◌}
use Rattle.group_history.specs.Queries.{view_rows}
use Rattle.group_history.specs.Rows.{Rows}
use Rattle.group_history.proofs.Lists.{prefix_self}
use Rattle.head_word.specs.Books.{drawn}
use Rattle.head_word.specs.Marks.{Known}
use Rattle.transactions.specs.Spans.{AreSpans}
use Rattle.rebase.specs.Readers.{read_by, seen_by}
use Rattle.rebase.proofs.Polling.{if_none, spans_none, unwrapped}
use Rattle.rebase.proofs.watching.read_first.Goals as goal

pub returns-clause-rows : goal.returns-clause-rows
returns-clause-rows g c =
    let means = g.M.Means.means in let scan = c.args.scan.now in let log = (seen_by c.args.tx.now).log in
    let told = c.as_slice.result.now in
    let found = c.in_ok-others.ensures.found (drawn log) (prefix_self (drawn log))
    (spans_none scan (drawn log) told c.in_ok-none.none c.in_ok-none.ensures) in
    let before : c.new-before.result.items ≡ told = cc c.as_slice.ensures.value in
    let xs : Rows = view_rows means (read_by c.args.tx.now) scan in
    unwrapped c.unwrap_or.result (λ rows. rows.items ≡ xs) c.in_ok-others.field-0.others c.new-before.result
    c.unwrap_or.ensures found.some
    (if_none c.in_ok-others.field-0.others (λ (is : told ≡ xs). before ∙ is) found.same)

pub returns-clause-spans : goal.returns-clause-spans
returns-clause-spans g c =
    let means = g.M.Means.means in let scan = c.args.scan.now in let log = (seen_by c.args.tx.now).log in
    let told = c.as_slice.result.now in let spans = c.in_ok-others.field-0.spans in
    let found = c.in_ok-others.ensures.found (drawn log) (prefix_self (drawn log))
    (spans_none scan (drawn log) told c.in_ok-none.none c.in_ok-none.ensures) in
    let mark : c.mark.result.log ≡ log = ap (λ (k : Known). k.log) c.mark.ensures ∙ ap (λ (k : Known). k.log)
    c.point.ensures in
    subst (λ w. AreSpans scan (drawn w) (view_rows means (read_by c.args.tx.now) scan) spans) (sym mark) found.spans
