use Rattle.head_word.specs.Books.{drawn}
use Rattle.commit_graph.proofs.Seating.{seat-trans}
use Rattle.change_tries.proofs.Answering.{found_asks, found_more, may_ask_grown}
use Rattle.change_tries.proofs.Since.{starts_earlier}
use Rattle.change_tries.proofs.changing.ask_from.Goals as goal

pub begin_try-requires-clause-asks : goal.begin_try-requires-clause-asks
begin_try-requires-clause-asks g c κs within =
    let v = c.loop-tried.invariant in let now = c.loop-tried.seat.mark.log in
    found_asks (drawn now) c.args.found.now c.loop-tried.found c.args.call.now.change.now (may_ask_grown
    c.args.seat.now.mark.log now c.args.found.now c.args.call.now.change.now v.seat.later.seen c.requires.asks) v.kept

pub loop-tried-preserved : goal.loop-tried-preserved
loop-tried-preserved g c =
    let v = c.loop-tried.invariant in let e = c.in-None.ensures in record {
      seat = seat-trans c.args.seat.now c.loop-tried.seat c.begin_try.new.seat v.seat e.seat;
      none = λ r. (e.going r).1;
      kept = found_more (drawn c.loop-tried.seat.mark.log) (drawn c.begin_try.new.seat.mark.log) c.args.found.now
          c.loop-tried.found c.begin_try.new.found c.args.call.now.change.now v.kept e.kept;
      since = λ before i. e.told before (v.since before i);
      idle = λ low. e.going;
    }

pub returns-in-Some-clause-first : goal.returns-in-Some-clause-first
returns-in-Some-clause-first g c = starts_earlier g.M.Has.has c.args.lost c.loop-tried.tried c.args.call.now.change.now
    c.in-Some.progress c.loop-tried.auto.tried c.in-Some.ensures.first

pub returns-in-Some-clause-kept : goal.returns-in-Some-clause-kept
returns-in-Some-clause-kept g c = found_more (drawn c.loop-tried.seat.mark.log) (drawn c.begin_try.new.seat.mark.log)
    c.args.found.now c.loop-tried.found c.begin_try.new.found c.args.call.now.change.now c.loop-tried.invariant.kept
    c.in-Some.ensures.kept

pub returns-clause-kept : goal.returns-clause-kept
returns-clause-kept g c = c.loop-tried.invariant.kept
