use Rattle.std.proofs.Common.{subst}
use Rattle.std.specs.Prelude.{IfOk}
use Rattle.group_history.specs.Record.{after}
use Rattle.head_word.specs.Books.{drawn, record_of}
use Rattle.change_tries.specs.Places.{HeadPlace, state_at}
use Rattle.change_tries.specs.Proposing.{StaysFound}
use Rattle.change_tries.specs.Runs.{IsFirstStep}
use Rattle.change_tries.proofs.Answering.{found_asks_at, found_grown}
use Rattle.change_tries.proofs.Since.{begins_first}
use Rattle.change_tries.proofs.trying.begin_there.Goals as goal

pub step_on-requires-clause-asks : goal.step_on-requires-clause-asks
step_on-requires-clause-asks g c κs within =
    let change = c.args.call.now.change.now in let found = c.args.found.now in let now = c.begin-step.new.found in
    found_asks_at (drawn c.args.seat.now.mark.log) found now change c.requires.asks
    (subst (λ (q : HeadPlace). StaysFound (drawn q.mark.log) found now change) c.new-at.ensures.place
    c.begin-step.ensures.kept)

pub returns-clause-first : goal.returns-clause-first
returns-clause-first g c =
    let change = c.args.call.now.change.now in let has = g.M.Has.has in
    begins_first has (after (record_of c.args.arrival.now.seen.log)) change c.begin-step.result c.step_on.result
    c.step_on.ensures.passed (subst (λ (q : HeadPlace). IfOk c.begin-step.result (IsFirstStep has (state_at q) change))
    c.new-at.ensures.place c.begin-step.ensures.first)

pub returns-clause-kept : goal.returns-clause-kept
returns-clause-kept g c =
    let change = c.args.call.now.change.now in let found = c.args.found.now in let now = c.begin-step.new.found in
    found_grown c.args.seat.now.mark.log c.step_on.new.seat.mark.log found now change c.step_on.ensures.seat.later.seen
    (subst (λ (q : HeadPlace). StaysFound (drawn q.mark.log) found now change) c.new-at.ensures.place
    c.begin-step.ensures.kept)
