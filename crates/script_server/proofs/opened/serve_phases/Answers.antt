use Rattle.std.proofs.lemmas.Result.{on_err_weaker, on_ok_weaker}
use Rattle.script_server.specs.Inside.Stages.{heads_stand, opened_stand, served_at}
use Rattle.script_server.proofs.Opening.{ended_unbegun}
use Rattle.script_server.proofs.Served.{on_err}
use Rattle.script_server.proofs.Settled.{steady_opened}
use Rattle.script_server.proofs.opened.serve_phases.Goals as goal

pub settle-requires-clause-steady : goal.settle-requires-clause-steady
settle-requires-clause-steady g c b m =
    let before = heads_stand c.args.heads in
    (c.serve_first-result.ensures.steady
    (steady_opened before before.said (opened_stand c.in_ok-opened.opened) c.in_ok-opened.ensures)).0

pub returns-in_err-opened-clause-ended : goal.returns-in_err-opened-clause-ended
returns-in_err-opened-clause-ended g c old begun =
    on_err c.from_residual.result (ended_unbegun old (served_at (heads_stand c.args.heads) c.args.number
    (g.I.Read.remaining c.args.input.now) (g.W.Write.contents c.args.out.now)) begun)

pub returns-clause-served : goal.returns-clause-served
returns-clause-served g c old begun =
    let before = heads_stand c.args.heads in
    on_ok_weaker c.serve_first-result.result
    (λ served. served (steady_opened before before.said (opened_stand c.in_ok-opened.opened) c.in_ok-opened.ensures)
    c.settle.ensures) (c.serve_first-result.ensures.served old before begun c.in_ok-opened.ensures)

pub returns-clause-ended : goal.returns-clause-ended
returns-clause-ended g c old begun =
    let before = heads_stand c.args.heads in
    on_err_weaker c.serve_first-result.result
    (λ ended. ended (steady_opened before before.said (opened_stand c.in_ok-opened.opened) c.in_ok-opened.ensures)
    c.settle.ensures) (c.serve_first-result.ensures.ended old before begun c.in_ok-opened.ensures)
