use Rattle.std.proofs.Common.{subst, sym}
use Rattle.client_desk.specs.Told.{told}
use Rattle.script_parser.specs.Scripts.{line_said}
use Rattle.script_runner.specs.Commanding.{MayTell}
use Rattle.script_runner.specs.Inside.Players.{player_of}
use Rattle.script_runner.proofs.Telling.{line_told}
use Rattle.script_runner.proofs.client.ScriptClient.tell.Goals as goal

pub returns-clause-told : goal.returns-clause-told
returns-clause-told g c =
    let means = g.M.Means.means in let sights = c.args.sights.now in let l = line_said c.args.line.now in
    let old = player_of c.args.self.now in let new = player_of c.call-outcome.new.self in
    line_told means sights l old new (told c.call-outcome.result c.deref.result.now) c.as_str-3.result.now
    c.args.printed.now.items c.print_line.new.out.items c.print_line.result
    (subst (λ bytes. MayTell means sights l.1 old.place (told c.call-outcome.result bytes) new.place)
    (sym c.deref.ensures.value) c.call-outcome.ensures.told)
    c.call-outcome.ensures.same.0 c.as_str-3.ensures c.print_line.ensures
