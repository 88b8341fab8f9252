use Rattle.std.proofs.Common.{subst}
use Rattle.script_server.specs.Inside.Stages.{heads_stand, served_at}
use Rattle.script_server.specs.Inside.Writes.{WritesSome}
use Rattle.script_server.proofs.Answering.{answers_head}
use Rattle.script_server.proofs.Reading.{was_read}
use Rattle.script_server.proofs.Served.{ended_here, ended_within, on_err}
use Rattle.script_server.proofs.heads.Heads.turn.Goals as goal

pub returns-in_err-read_line-clause-ended : goal.returns-in_err-read_line-clause-ended
returns-in_err-read_line-clause-ended g c =
    on_err c.from_residual.result (ended_here (served_at (heads_stand c.args.self.now) c.args.number
    (g.I.Read.remaining c.args.input.now) (g.W.Write.contents c.args.out.now)))

pub returns-in_err-answer-clause-ended : goal.returns-in_err-answer-clause-ended
returns-in_err-answer-clause-ended g c =
    on_err c.from_residual-in_err-answer.result (ended_here (served_at (heads_stand c.args.self.now) c.args.number
    (g.I.Read.remaining c.args.input.now) (g.W.Write.contents c.args.out.now)))

pub returns-in_err-write_answer-in-Answered-clause-ended : goal.returns-in_err-write_answer-in-Answered-clause-ended
returns-in_err-write_answer-in-Answered-clause-ended g c =
    let input = g.I.Read.remaining c.args.input.now in let rest = g.I.Read.remaining c.read_line.new.input in
    let line = c.read_line.new.line.items in let text = c.answer.new.text.items in
    let before = heads_stand c.args.self.now in let after = heads_stand c.answer.new.self in
    on_err c.from_residual-in_err-write_answer-in-Answered.result
    (ended_within (served_at before c.args.number input (g.W.Write.contents c.args.out.now)) line rest text after
    (g.W.Write.contents c.write_answer.new.out)
    (was_read c.in_ok-read_line.field-0 input rest line c.if-not-branch.false c.in_ok-read_line.ensures)
    (answers_head c.in_ok-answer.field-0 c.args.number c.deref.result.now line before text after c.in-Answered.is
    c.deref.ensures.value c.in_ok-answer.ensures)
    (subst (λ t. WritesSome t (g.W.Write.contents c.args.out.now) (g.W.Write.contents c.write_answer.new.out))
    c.deref-in-Answered.ensures.value c.in_err-write_answer-in-Answered.ensures.cut))
