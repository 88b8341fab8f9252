use Rattle.std.proofs.Common.{ap, sym, subst, ◌∙◌}
use Rattle.reader_claims.specs.declared.view.View.{View}
use Rattle.group_history.specs.Record.{after}
use Rattle.head_word.specs.Books.{record_of}
use Rattle.reader_claims.specs.Seats.{ClaimsId}
use Rattle.change_tries.specs.Changing.{EndsAt, FreesTry}
use Rattle.change_tries.specs.Tries.{IsTurn, NeedsNone, TellsTurn}
use Rattle.change_tries.specs.declared.trying.TryOutcome.{TryOutcome}
use Rattle.change_tries.proofs.Since.{needs_none, tried_since, turn_ended}
use Rattle.change_tries.proofs.trying.end_try.Goals as goal

pub returns-clause-told : goal.returns-clause-told
returns-clause-told g c before lost a =
    let means = g.M.Means.means in let reused = g.S.Slots.reused in let e = c.make_there-tried.ensures in
    let mid = c.args.seat.now in let done = c.make_there-tried.new.seat in let new = c.unpin.new.seat in
    let request = c.args.request.now in let r = c.make_there-tried.result in
    subst (λ (t : TryOutcome). TellsTurn means reused request.call.tries before lost new request.before.id
    request.call.change.now t)
    (sym c.turn_of.ensures)
    (tried_since means reused request.call.tries before mid done new lost request.before.id request.call.change.now
    c.args.arrival.now.seen.log c.args.arrival.now.base r c.requires.stands.stood a e.seat
    c.unpin.ensures.looked c.unpin.ensures.view c.unpin.ensures.mark e.tried e.err e.cause
    (λ again. subst (λ (t : ClaimsId). FreesTry (EndsAt t.sizes (after (record_of c.args.arrival.now.seen.log))
    request.call.change.now) request.call.change.now mid done r) (sym c.requires.reading.0.1 ∙ a.same.table)
    (e.frees again)))

pub returns-clause-turn : goal.returns-clause-turn
returns-clause-turn g c =
    let means = g.M.Means.means in let reused = g.S.Slots.reused in let e = c.make_there-tried.ensures in
    let mid = c.args.seat.now in let done = c.make_there-tried.new.seat in let new = c.unpin.new.seat in
    let request = c.args.request.now in let s = after (record_of c.args.arrival.now.seen.log) in
    subst (λ (t : TryOutcome). IsTurn g.M.Has.has means reused mid new s request.before.id request.call.change.now t)
    (sym c.turn_of.ensures)
    (turn_ended g.M.Has.has means reused mid done new c.args.arrival.now.base s request.before.id
    request.call.change.now c.make_there-tried.result c.unpin.ensures.mark
    (λ again. (
      ap (λ (v : View). v.pin) (c.unpin.ensures.view again),
      (c.unpin.ensures.looked.calm again).taken ∙ e.none again,
    )) e.tried)

pub returns-clause-none : goal.returns-clause-none
returns-clause-none g c = subst (λ (t : TryOutcome). NeedsNone t) (sym c.turn_of.ensures)
    (needs_none c.make_there-tried.result)
