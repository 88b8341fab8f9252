use Rattle.client_desk.specs.Told.{told}
use Rattle.script_runner.proofs.Closing.{through}
use Rattle.script_runner.proofs.record.read_through.Goals as goal

pub returns : goal.returns
returns g c =
    let turn = c.args.turn.now in
    through g.M.Means.means turn
    (record { client = record turn.client { place = c.call.new.self }; printed = turn.printed })
    (told c.call.result c.call.new.bytes.items) c.requires c.call.ensures
