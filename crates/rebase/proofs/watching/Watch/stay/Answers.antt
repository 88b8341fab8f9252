use Rattle.std.proofs.Common.{◌≡◌, Some, subst}
use Rattle.head_word.specs.Books.{drawn}
use Rattle.head_word.proofs.BookLaws.{drawn_begins}
use Rattle.transactions.proofs.SpanLemmas.{spans_known}
use Rattle.rebase.specs.Inside.Watching.{AreRead}
use Rattle.rebase.proofs.watching.Watch.stay.Goals as goal

pub keep-requires-clause-spans : goal.keep-requires-clause-spans
keep-requires-clause-spans g c =
    let own = c.self.inside in let told = c.in-Some.told in let seen = c.mark_with-seen.result.log in
    let is : own.last ≡ Some told = cc (c.take.ensures.value, c.in-Some.is) in
    let read = subst (AreRead (drawn own.mark.log) own.scan) is c.self.invariant in
    spans_known own.scan (drawn own.mark.log) (drawn seen) told.rows told.spans
    (drawn_begins own.mark.log seen c.mark_with-seen.ensures.other) read.4
