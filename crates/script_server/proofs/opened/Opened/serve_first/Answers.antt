use Rattle.std.proofs.Common.{◌+◌}
use Rattle.std.proofs.lemmas.Result.{on_err_weaker, on_ok_weaker}
use Rattle.script_server.specs.Inside.Stages.{opened_stand, served_at}
use Rattle.script_server.proofs.Opening.{end_on, ended_first, served_first}
use Rattle.script_server.proofs.Served.{ended_on, on_err}
use Rattle.script_server.proofs.opened.Opened.serve_first.Goals as goal

pub returns-in_err-answer_first-clause-ended : goal.returns-in_err-answer_first-clause-ended
returns-in_err-answer_first-clause-ended g c old before begun opens =
    on_err c.from_residual.result
    (λ was all. ended_first old
    (served_at before c.args.number (g.I.Read.remaining c.args.input.now) (g.W.Write.contents c.args.out.now))
    (opened_stand c.args.self.now) (g.W.Write.contents c.answer_first.new.out) begun opens
    c.in_err-answer_first.ensures.cut)

pub returns-clause-served : goal.returns-clause-served
returns-clause-served g c old before begun opens =
    let at = served_at before c.args.number (g.I.Read.remaining c.args.input.now) (g.W.Write.contents c.args.out.now) in
    let next = served_at (opened_stand c.args.self.now) (c.args.number + 1) (g.I.Read.remaining c.args.input.now)
    (g.W.Write.contents c.answer_first.new.out) in
    on_ok_weaker c.serve.result (λ rest was all. end_on old next (g.W.Write.contents c.serve.new.out)
    (served_first old at (opened_stand c.args.self.now) (g.W.Write.contents c.answer_first.new.out) begun opens
    c.in_ok-answer_first.ensures.line c.in_ok-answer_first.ensures.whole) (rest was all)) c.serve.ensures.served

pub returns-clause-ended : goal.returns-clause-ended
returns-clause-ended g c old before begun opens =
    let at = served_at before c.args.number (g.I.Read.remaining c.args.input.now) (g.W.Write.contents c.args.out.now) in
    let next = served_at (opened_stand c.args.self.now) (c.args.number + 1) (g.I.Read.remaining c.args.input.now)
    (g.W.Write.contents c.answer_first.new.out) in
    on_err_weaker c.serve.result (λ rest was all. ended_on old next (g.W.Write.contents c.serve.new.out)
    (served_first old at (opened_stand c.args.self.now) (g.W.Write.contents c.answer_first.new.out) begun opens
    c.in_ok-answer_first.ensures.line c.in_ok-answer_first.ensures.whole) (rest was all)) c.serve.ensures.ended
