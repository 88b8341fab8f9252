use Rattle.std.proofs.Common.{◌+◌, subst}
use Rattle.script_server.specs.Inside.Stages.{HasTurned, heads_stand, served_at}
use Rattle.script_server.proofs.Served.{ended_on, on_err, served_on}
use Rattle.script_server.proofs.heads.Heads.serve.Goals as goal

pub loop-number-preserved : goal.loop-number-preserved
loop-number-preserved g c =
    let l = c.loop-number in
    let from = served_at (heads_stand c.args.self.now) 1 (g.I.Read.remaining c.args.input.now)
    (g.W.Write.contents c.args.out.now) in
    let at = served_at (heads_stand l.self) l.number (g.I.Read.remaining l.input) (g.W.Write.contents l.out) in
    let s = heads_stand c.turn.new.self in
    let input = g.I.Read.remaining c.turn.new.input in let output = g.W.Write.contents c.turn.new.out in
    let turned = subst (λ t. HasTurned t at s input output) c.in-Answered.is c.in_ok-turn.ensures.turned in
    record {
      served = served_on from at (served_at s (l.number + 1) input output) l.invariant.served turned.0;
      none = turned.1;
    }

pub returns-in_err-turn-clause-ended : goal.returns-in_err-turn-clause-ended
returns-in_err-turn-clause-ended g c =
    let l = c.loop-number in
    on_err c.from_residual.result
    (ended_on (served_at (heads_stand c.args.self.now) 1 (g.I.Read.remaining c.args.input.now)
    (g.W.Write.contents c.args.out.now))
    (served_at (heads_stand l.self) l.number (g.I.Read.remaining l.input) (g.W.Write.contents l.out))
    (g.W.Write.contents c.turn.new.out) l.invariant.served c.in_err-turn.ensures.ended)
