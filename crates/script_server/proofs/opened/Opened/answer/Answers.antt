use Rattle.std.proofs.Common.{OnOk, subst}
use Rattle.script_server.specs.Inside.Stages.{HasDone, opened_stand}
use Rattle.script_server.proofs.Answering.{on_done, placed}
use Rattle.script_server.proofs.opened.Opened.answer.Goals as goal

pub perform-requires-clause-place : goal.perform-requires-clause-place
perform-requires-clause-place g c b m =
    let taken = c.in-Ok.ensures.taken in
    placed c.args.number c.in-Ok.asked (opened_stand c.args.self.now) taken.0 c.requires taken.2

pub returns-in-Ok-clause-answered : goal.returns-in-Ok-clause-answered
returns-in-Ok-clause-answered g c =
    let taken = c.in-Ok.ensures.taken in let was = opened_stand c.args.self.now in
    let now = opened_stand c.perform.new.self in let text = c.perform.new.text.items in
    on_done c.in-Ok.asked c.perform.result c.args.number c.args.line.now was text now taken.0 c.requires taken.1 taken.2
    (subst (λ k. OnOk c.perform.result (HasDone c.in-Ok.asked c.args.number (record was { said = k }) text now)) taken.3
    c.perform.ensures.done)
