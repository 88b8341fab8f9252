use Rattle.std.proofs.Common.{inl, refl}
use Rattle.head_word.specs.Books.{drawn}
use Rattle.change_tries.proofs.Answering.{found_self, may_ask_grown}
use Rattle.change_tries.proofs.Since.{follows_anew}
use Rattle.change_tries.proofs.changing.ran_from.Goals as goal

pub ask_from-requires-clause-asks : goal.ask_from-requires-clause-asks
ask_from-requires-clause-asks g c κs within = may_ask_grown c.args.seat.now.mark.log c.ran_there.new.seat.mark.log
    c.args.found.now c.args.call.now.change.now c.in-Lost.ensures.seat.later.seen c.requires.asks

pub returns-in-Ended-clause-told : goal.returns-in-Ended-clause-told
returns-in-Ended-clause-told g c before a = c.in-Ended.ensures.told before c.args.ended.attempt.lost a

pub returns-in-Lost-clause-told : goal.returns-in-Lost-clause-told
returns-in-Lost-clause-told g c before a =
    c.ask_from.ensures.told before (c.in-Lost.ensures.told before c.args.ended.attempt.lost a)

pub returns-in-Run-clause-next : goal.returns-in-Run-clause-next
returns-in-Run-clause-next g c = inl (c.in-Run.ensures.turn.0, refl, refl, c.in-Run.ensures.behind)

pub returns-in-Lost-clause-next : goal.returns-in-Lost-clause-next
returns-in-Lost-clause-next g c = follows_anew g.M.Has.has g.M.Means.means c.args.seat.now c.ask_from.new.seat
    c.args.ended.attempt c.args.ended.ran c.args.call.now.change.now c.ask_from.result c.ask_from.ensures.first

pub returns-in-Run-clause-kept : goal.returns-in-Run-clause-kept
returns-in-Run-clause-kept g c =
    let new = c.ran_there.new.seat.mark.log in
    found_self (drawn new) c.args.found.now c.args.call.now.change.now (may_ask_grown c.args.seat.now.mark.log new
    c.args.found.now c.args.call.now.change.now c.in-Run.ensures.seat.later.seen c.requires.asks)

pub returns-in-Ended-clause-kept : goal.returns-in-Ended-clause-kept
returns-in-Ended-clause-kept g c =
    let new = c.ran_there.new.seat.mark.log in
    found_self (drawn new) c.args.found.now c.args.call.now.change.now (may_ask_grown c.args.seat.now.mark.log new
    c.args.found.now c.args.call.now.change.now c.in-Ended.ensures.seat.later.seen c.requires.asks)
