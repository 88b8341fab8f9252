use Rattle.std.proofs.Common.{subst}
use Rattle.script_server.specs.Answers.{Answers}
use Rattle.script_server.specs.Inside.Stages.{opened_stand, served_at}
use Rattle.script_server.specs.Inside.Writes.{WritesSome}
use Rattle.script_server.proofs.Reading.{was_read}
use Rattle.script_server.proofs.Served.{ended_here, ended_within, on_err}
use Rattle.script_server.proofs.opened.Opened.turn.Goals as goal

pub returns-in_err-read_line-clause-ended : goal.returns-in_err-read_line-clause-ended
returns-in_err-read_line-clause-ended g c =
    on_err c.from_residual.result (λ was all. ended_here (served_at (opened_stand c.args.self.now) c.args.number
    (g.I.Read.remaining c.args.input.now) (g.W.Write.contents c.args.out.now)))

pub returns-in_err-answer-clause-ended : goal.returns-in_err-answer-clause-ended
returns-in_err-answer-clause-ended g c =
    on_err c.from_residual-in_err-answer.result (λ was all. ended_here (served_at (opened_stand c.args.self.now)
    c.args.number (g.I.Read.remaining c.args.input.now) (g.W.Write.contents c.args.out.now)))

pub returns-in_err-write_answer-clause-ended : goal.returns-in_err-write_answer-clause-ended
returns-in_err-write_answer-clause-ended g c =
    let input = g.I.Read.remaining c.args.input.now in let rest = g.I.Read.remaining c.read_line.new.input in
    let line = c.read_line.new.line.items in let text = c.answer.new.text.items in
    let before = opened_stand c.args.self.now in let after = opened_stand c.answer.new.self in
    on_err c.from_residual-in_err-write_answer.result
    (λ was all. ended_within (served_at before c.args.number input (g.W.Write.contents c.args.out.now)) line rest text
    after (g.W.Write.contents c.write_answer.new.out)
    (was_read c.in_ok-read_line.field-0 input rest line c.if-not-branch.false c.in_ok-read_line.ensures)
    (subst (λ l. Answers c.args.number l before text after) c.deref.ensures.value
    (c.in_ok-answer.ensures.answered was all))
    (subst (λ t. WritesSome t (g.W.Write.contents c.args.out.now) (g.W.Write.contents c.write_answer.new.out))
    c.deref-2.ensures.value c.in_err-write_answer.ensures.cut))
