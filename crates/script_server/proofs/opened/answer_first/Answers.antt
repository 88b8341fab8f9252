use Rattle.std.proofs.Common.{[], inl, refl}
use Rattle.script_server.proofs.Served.{appends_none, on_err}
use Rattle.script_server.proofs.opened.answer_first.Goals as goal

pub returns-in_err-print_ok-clause-cut : goal.returns-in_err-print_ok-clause-cut
returns-in_err-print_ok-clause-cut g c =
    on_err c.from_residual.result ([], inl refl, appends_none (g.W.Write.contents c.args.out.now))
