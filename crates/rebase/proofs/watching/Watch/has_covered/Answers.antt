use Rattle.std.proofs.Common.{sym, subst, ap, ◌∙◌, Some}
use Rattle.std.specs.Cmp.Lexicographic.{bytes_decides}
use Rattle.group_history.specs.Record.{after}
use Rattle.group_history.specs.Queries.{view_rows}
use Rattle.group_history.specs.State.{view_of}
use Rattle.head_word.specs.Books.{drawn, record_of}
use Rattle.rebase.specs.Watching.{Watched}
use Rattle.rebase.specs.Inside.Watching.{AreRead, CoversView, rows_last_told}
use Rattle.rebase.proofs.Polling.{covered_again}
use Rattle.rebase.proofs.watching.Watch.has_covered.Goals as goal

pub returns-in-Some : goal.returns-in-Some
returns-in-Some g c same =
    let means = g.M.Means.means in let own = c.self.inside in let at = c.args.at.now in let told = c.in-Some.told in
    let cover = c.args.cover.now in
    let read = subst (AreRead (drawn own.mark.log) own.scan) c.in-Some.is c.self.invariant in
    let is = subst (λ (w : Watched). CoversView means at.log w.scan cover) (sym c.self.view_is) c.requires.cover in
    let one = covered_again own.mark.log at.log own.scan told.cover cover read.0
    (view_of means (after (record_of at.log))) c.begins_or_follows.ensures read.3 is
    ((bytes_decides told.cover cover).0 (sym c.eq.ensures ∙ same)) in
    sym (ap (λ (w : Watched). w.last) c.self.view_is) ∙ ap rows_last_told c.in-Some.is ∙ ap Some (read.2 ∙ one) ∙ ap
    (λ (w : Watched). Some (view_rows means (after (record_of at.log)) w.scan)) c.self.view_is
