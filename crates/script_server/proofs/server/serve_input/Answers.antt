use Rattle.script_server.specs.Serving.{beginning}
use Rattle.script_server.proofs.Served.{ended_here}
use Rattle.script_server.proofs.server.serve_input.Goals as goal

pub returns-in_default-clause-ended : goal.returns-in_default-clause-ended
returns-in_default-clause-ended g c =
    ended_here (beginning (g.I.Read.remaining c.args.input) (g.W.Write.contents c.args.out.now))
