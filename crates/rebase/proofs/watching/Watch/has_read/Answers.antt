use Rattle.std.proofs.Common.{sym, subst, ap, ◌∙◌, Some}
use Rattle.std.proofs.lemmas.Bool.{eqb-true}
use Rattle.group_history.specs.Record.{after}
use Rattle.group_history.specs.Refs.{stamp_of}
use Rattle.group_history.specs.Queries.{view_rows}
use Rattle.group_history.specs.Scans.{rows_of}
use Rattle.group_history.specs.State.{view_of}
use Rattle.head_word.specs.Books.{drawn, record_of}
use Rattle.rebase.specs.Watching.{Watched}
use Rattle.rebase.specs.Inside.Watching.{AreRead, rows_last_told}
use Rattle.rebase.proofs.Polling.{read_again}
use Rattle.rebase.proofs.watching.Watch.has_read.Goals as goal

pub returns-in-Some : goal.returns-in-Some
returns-in-Some g c same =
    let means = g.M.Means.means in let own = c.self.inside in let at = c.args.at.now in let told = c.in-Some.told in
    let read = subst (AreRead (drawn own.mark.log) own.scan) c.in-Some.is c.self.invariant in
    let stamps = sym c.stamp.ensures.stamp ∙ eqb-true c.stamp.result c.stamp-in-Some.result same ∙
    c.stamp-in-Some.ensures.stamp in
    let one = read_again own.mark.log at.log (stamp_of told.root) (stamp_of c.root.result) read.0
    (view_of means (after (record_of at.log))) c.begins_or_follows.ensures read.1 c.root.ensures stamps in
    sym (ap (λ (w : Watched). w.last) c.self.view_is) ∙ ap rows_last_told c.in-Some.is ∙ ap Some
    (read.2 ∙ ap (rows_of own.scan) one) ∙ ap
    (λ (w : Watched). Some (view_rows means (after (record_of at.log)) w.scan)) c.self.view_is
