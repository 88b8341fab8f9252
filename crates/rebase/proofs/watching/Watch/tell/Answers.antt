use Rattle.std.proofs.Common.{Option, rules, sym, ap, ◌∙◌}
use Rattle.group_history.specs.Rows.{Rows}
use Rattle.rebase.specs.Watching.{Watched}
use Rattle.rebase.proofs.Polling.{was_told-is}
use Rattle.rebase.proofs.watching.Watch.tell.Goals as goal

pub returns-then-has_told-clause-kept : goal.returns-then-has_told-clause-kept
returns-then-has_told-clause-kept g c =
    let old : Watched = c.args.self.now in
    let last = was_told-is old.last c.args.rows (sym c.has_told.ensures ∙ c.if-has_told.true) in
    c.keep.ensures ∙ ap (λ (l : Option Rows). record old { last = l }) (sym last)

pub returns-clause-value : goal.returns-clause-value
returns-clause-value g c = search rules

pub returns-clause-kept : goal.returns-clause-kept
returns-clause-kept g c = search rules
