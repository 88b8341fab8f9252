use Rattle.std.proofs.Common.{arith, sym, subst}
use Rattle.head_word.specs.Books.{drawn}
use Rattle.commit_graph.specs.Seats.{SeatState}
use Rattle.change_tries.proofs.Answering.{found_self, may_ask_grown}
use Rattle.change_tries.specs.Tries.{IsArrivedSince}
use Rattle.change_tries.proofs.Since.{arrived_since, refused_since}
use Rattle.change_tries.proofs.trying.begin_try.Goals as goal

pub begin_there-requires-clause-asks : goal.begin_there-requires-clause-asks
begin_there-requires-clause-asks g c κs within = may_ask_grown c.args.seat.now.mark.log
    c.pin_and_load_both.new.seat.mark.log c.args.found.now c.args.call.now.change.now
    c.in-Ok.ensures.looked.seat.later.seen c.requires.asks

pub returns-in-Err-clause-told : goal.returns-in-Err-clause-told
returns-in-Err-clause-told g c before i =
    let e = c.in-Err.ensures in
    refused_since g.M.Means.means g.S.Slots.reused c.args.call.now.tries before c.args.seat.now
    c.pin_and_load_both.new.seat c.args.lost c.args.found.now.id c.args.call.now.change.now c.in-Err.e i e.looked e.busy

pub returns-in-Run-clause-told : goal.returns-in-Run-clause-told
returns-in-Run-clause-told g c before i =
    let means = g.M.Means.means in let reused = g.S.Slots.reused in let e = c.in-Ok.ensures in
    let a = c.in-Ok.arrival in
    subst (λ (t : SeatState). IsArrivedSince means reused before c.args.lost c.args.call.now.change.now
    a.seen.log t) (sym c.in-Run.ensures.turn.0)
    (arrived_since means reused before c.args.seat.now c.pin_and_load_both.new.seat c.args.lost
    c.args.call.now.change.now a.seen.log a.base a.first
    i e.arrived e.looked)

pub returns-in-Ended-clause-told : goal.returns-in-Ended-clause-told
returns-in-Ended-clause-told g c before i =
    let e = c.in-Ok.ensures in let a = c.in-Ok.arrival in
    c.in-Ended.ensures.told before c.args.lost (arrived_since g.M.Means.means g.S.Slots.reused before c.args.seat.now
    c.pin_and_load_both.new.seat c.args.lost c.args.call.now.change.now a.seen.log a.base a.first i e.arrived e.looked)

pub returns-in-Lost-clause-told : goal.returns-in-Lost-clause-told
returns-in-Lost-clause-told g c before i =
    let e = c.in-Ok.ensures in let a = c.in-Ok.arrival in
    c.in-Lost.ensures.told before c.args.lost (arrived_since g.M.Means.means g.S.Slots.reused before c.args.seat.now
    c.pin_and_load_both.new.seat c.args.lost c.args.call.now.change.now a.seen.log a.base a.first i e.arrived e.looked)

pub returns-in-Run-clause-first : goal.returns-in-Run-clause-first
returns-in-Run-clause-first g c = (omega arith, c.in-Run.ensures.first)

pub returns-in-Err-clause-kept : goal.returns-in-Err-clause-kept
returns-in-Err-clause-kept g c =
    let new = c.pin_and_load_both.new.seat.mark.log in
    found_self (drawn new) c.args.found.now c.args.call.now.change.now (may_ask_grown c.args.seat.now.mark.log new
    c.args.found.now c.args.call.now.change.now c.in-Err.ensures.looked.seat.later.seen c.requires.asks)
