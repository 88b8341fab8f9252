use Rattle.std.proofs.Common.{Option, Result, Some, subst}
use Rattle.group_history.specs.declared.changes.Change.TheVariants.{Closed}
use Rattle.group_history.specs.declared.refs.Ref.{Ref}
use Rattle.group_history.specs.declared.refusals.Refusal.{Refusal}
use Rattle.linearized.specs.Changes.{change_closing}
use Rattle.change_tries.specs.Leaving.{Frees, spared}
use Rattle.rebase.specs.Inside.Made.{closing_ended}
use Rattle.rebase.proofs.Telling.{frees_closing}
use Rattle.rebase.proofs.client.Client.end_unknown.Goals as goal

pub returns-in-Ok-clause-frees : goal.returns-in-Ok-clause-frees
returns-in-Ok-clause-frees g c r =
    let old = c.args.self.now in let new = c.change.new.self in let e = c.change.ensures in
    subst (λ (w : Result (Option Ref) Refusal). Frees (Some Closed) (spared (closing_ended w)) old.seat new.seat
    (change_closing (closing_ended w))) c.in-Ok.is
    (frees_closing g.M.Means.means c.args.tries old.seat new.seat old.last c.change.result e.answer (e.frees r))

pub returns-in-Err-clause-frees : goal.returns-in-Err-clause-frees
returns-in-Err-clause-frees g c r =
    let old = c.args.self.now in let new = c.change.new.self in let e = c.change.ensures in
    subst (λ (w : Result (Option Ref) Refusal). Frees (Some Closed) (spared (closing_ended w)) old.seat new.seat
    (change_closing (closing_ended w))) c.in-Err.is
    (frees_closing g.M.Means.means c.args.tries old.seat new.seat old.last c.change.result e.answer (e.frees r))
