use Rattle.std.proofs.Common.{◌+◌, refl, subst}
use Rattle.script_server.specs.Inside.Stages.{HasAnswered, opened_stand, served_at}
use Rattle.script_server.proofs.Served.{ended_here, ended_on, on_err, served_none, served_on}
use Rattle.script_server.proofs.Settled.{stays, stays_on, whole_on}
use Rattle.script_server.proofs.opened.Opened.serve.Goals as goal

pub loop-number-init : goal.loop-number-init
loop-number-init g c =
    let s = opened_stand c.args.self.now in
    record {
      served = λ was all. served_none (served_at s c.args.first (g.I.Read.remaining c.args.input.now)
          (g.W.Write.contents c.args.out.now));
      there = c.requires;
      steady = stays s.players s.players s.seen s.seen refl refl;
    }

pub loop-number-preserved : goal.loop-number-preserved
loop-number-preserved g c =
    let l = c.loop-number in let first = opened_stand c.args.self.now in let mid = opened_stand l.self in
    let from = served_at first c.args.first (g.I.Read.remaining c.args.input.now) (g.W.Write.contents c.args.out.now) in
    let at = served_at mid l.number (g.I.Read.remaining l.input) (g.W.Write.contents l.out) in
    let s = opened_stand c.turn.new.self in
    let input = g.I.Read.remaining c.turn.new.input in let output = g.W.Write.contents c.turn.new.out in
    let turned = subst (λ is. HasAnswered is at s input output) c.if-not-branch.false c.in_ok-turn.ensures.turned in
    record {
      served = whole_on first mid s (served_on from at (served_at s (l.number + 1) input output)) l.invariant.steady
          c.turn.ensures.steady l.invariant.served turned.0;
      there = turned.1;
      steady = stays_on first mid s l.invariant.steady c.turn.ensures.steady;
    }

pub returns-in_err-turn-clause-ended : goal.returns-in_err-turn-clause-ended
returns-in_err-turn-clause-ended g c =
    let l = c.loop-number in let first = opened_stand c.args.self.now in let mid = opened_stand l.self in
    on_err c.from_residual.result
    (whole_on first mid (opened_stand c.turn.new.self)
    (ended_on (served_at first c.args.first (g.I.Read.remaining c.args.input.now) (g.W.Write.contents c.args.out.now))
    (served_at mid l.number (g.I.Read.remaining l.input) (g.W.Write.contents l.out))
    (g.W.Write.contents c.turn.new.out)) l.invariant.steady c.turn.ensures.steady l.invariant.served
    c.in_err-turn.ensures.ended)

pub returns-in_err-turn-clause-steady : goal.returns-in_err-turn-clause-steady
returns-in_err-turn-clause-steady g c =
    stays_on (opened_stand c.args.self.now) (opened_stand c.loop-number.self) (opened_stand c.turn.new.self)
    c.loop-number.invariant.steady c.turn.ensures.steady

pub returns-then-not-branch-clause-served : goal.returns-then-not-branch-clause-served
returns-then-not-branch-clause-served g c =
    let l = c.loop-number in let first = opened_stand c.args.self.now in let mid = opened_stand l.self in
    let at = served_at mid l.number (g.I.Read.remaining l.input) (g.W.Write.contents l.out) in
    let output = g.W.Write.contents c.turn.new.out in let s = opened_stand c.turn.new.self in
    let turned = subst (λ is. HasAnswered is at s (g.I.Read.remaining c.turn.new.input) output) c.if-not-branch.true
    c.in_ok-turn.ensures.turned in
    whole_on first mid s (λ served last. (at, served, last)) l.invariant.steady c.turn.ensures.steady l.invariant.served
    (λ was all. turned)

pub returns-then-not-branch-clause-steady : goal.returns-then-not-branch-clause-steady
returns-then-not-branch-clause-steady g c =
    stays_on (opened_stand c.args.self.now) (opened_stand c.loop-number.self) (opened_stand c.turn.new.self)
    c.loop-number.invariant.steady c.turn.ensures.steady

pub returns-clause-ended : goal.returns-clause-ended
returns-clause-ended g c = λ was all.
    let l = c.loop-number in
    let at = served_at (opened_stand l.self) l.number (g.I.Read.remaining l.input) (g.W.Write.contents l.out) in
    ended_on (served_at (opened_stand c.args.self.now) c.args.first (g.I.Read.remaining c.args.input.now)
    (g.W.Write.contents c.args.out.now)) at (g.W.Write.contents l.out) (l.invariant.served was all) (ended_here at)
