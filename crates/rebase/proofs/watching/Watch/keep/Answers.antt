use Rattle.std.proofs.Common.{ap, subst, sym, ◌∙◌}
use Rattle.group_history.specs.Queries.{view_rows}
use Rattle.group_history.specs.Record.{after}
use Rattle.group_history.specs.Refs.{stamp_of}
use Rattle.group_history.specs.State.{view_of}
use Rattle.head_word.specs.Books.{drawn, record_of}
use Rattle.head_word.proofs.BookLaws.{drawn_begins}
use Rattle.commit_graph.proofs.Spelled.{map-grown}
use Rattle.transactions.specs.Spans.{AreSpans}
use Rattle.rebase.specs.Inside.Watching.{CoversView}
use Rattle.rebase.specs.Watching.{Watched}
use Rattle.rebase.proofs.Polling.{covers_kept}
use Rattle.rebase.proofs.watching.Watch.keep.Goals as goal

pub invariant_of-self : goal.invariant_of-self
invariant_of-self g c =
    let means = g.M.Means.means in let at = c.args.at.now in let log = c.args.mark.log in
    let s = after (record_of at.log) in let p = drawn_begins at.log log c.requires.seen in (
      view_of means s,
      map-grown (drawn at.log) (drawn log) (stamp_of c.root.result) (view_of means s) p c.root.ensures,
      c.requires.rows ∙ sym (ap (λ (w : Watched). view_rows means s w.scan) c.self.view_is),
      covers_kept (drawn at.log) (drawn log) c.self.inside.scan c.args.cover (view_of means s) p
          (subst (λ (w : Watched). CoversView means at.log w.scan c.args.cover) (sym c.self.view_is)
          c.requires.cover),
      subst (λ (w : Watched). AreSpans w.scan (drawn log) c.args.rows c.args.spans) (sym c.self.view_is)
          c.requires.spans,
    )
