use Rattle.std.proofs.Common.{T, subst, sym}
use Rattle.group_history.specs.Rows.{Rows, keys_of, rises}
use Rattle.group_history.proofs.Rising.{rows_rise}
use Rattle.head_word.specs.Books.{drawn}
use Rattle.rebase.specs.Inside.Watching.{AreRead}
use Rattle.rebase.proofs.watching.Watch.rows.Goals as goal

pub returns-in-Some-clause-rising : goal.returns-in-Some-clause-rising
returns-in-Some-clause-rising g c =
    let own = c.self.inside in
    let read = subst (AreRead (drawn own.mark.log) own.scan) c.in-Some.is c.self.invariant in
    subst (λ (rows : Rows). T (rises (keys_of rows))) (sym read.2) (rows_rise own.scan read.0)
