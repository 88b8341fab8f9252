use Rattle.std.proofs.Common.{◌++◌, ◌∙◌, ap}
use Rattle.client_desk.specs.Told.{told}
use Rattle.script_parser.specs.Scripts.{line_said}
use Rattle.script_runner.specs.Answering.{players_in}
use Rattle.script_runner.specs.Printing.{line_text, told_text}
use Rattle.script_runner.proofs.Grouping.{told_at}
use Rattle.script_runner.proofs.Steady.{called_steady}
use Rattle.script_runner.proofs.Telling.{on_ok}
use Rattle.script_runner.proofs.clients.Clients.tell.Goals as goal

pub returns-clause-told : goal.returns-clause-told
returns-clause-told g c =
    let was = c.args.self.now in let now = c.call-outcome.new.self in
    let l = line_said c.args.line.now in let name = c.as_str-name.result.now in let out = c.args.text.now.items in
    on_ok c.print_line.result
    (λ printed. told_at g.M.Means.means now.turns.items c.index.result.now was.sights.items was.seen c.args.place l
    (players_in was) (told c.call-outcome.result c.call-outcome.new.bytes.items) now.seen name out
    c.print_line.new.out.items c.call-outcome.ensures.called c.index.ensures c.as_str-name.ensures
    (printed ∙ ap (λ bytes. out ++ line_text l.0 name (told_text l.1 (told c.call-outcome.result bytes)))
    c.deref.ensures.value))
    c.print_line.ensures

pub returns-clause-steady : goal.returns-clause-steady
returns-clause-steady g c =
    let was = c.args.self.now in let now = c.call-outcome.new.self in
    called_steady g.M.Means.means was.sights.items was.seen c.args.place c.args.line.now.command (players_in was)
    (told c.call-outcome.result c.call-outcome.new.bytes.items) (players_in now) now.seen c.call-outcome.ensures.called
