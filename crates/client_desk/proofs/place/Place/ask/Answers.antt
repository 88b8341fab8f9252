use Rattle.std.proofs.Common.{refl}
use Rattle.client_desk.specs.Told.{told}
use Rattle.client_desk.proofs.Querying.{told_client, told_nobody, told_reader}
use Rattle.client_desk.proofs.Telling.{neither}
use Rattle.client_desk.proofs.place.Place.ask.Goals as goal

pub returns-in-Client : goal.returns-in-Client
returns-in-Client g c =
    let here = rw c.in-Client.is at c.self.view_is in
    told_client g.M.Means.means _ c.args.self.now c.in-Client.client c.tell_by_client.new.client
    c.tell_by_client.new.moment (told c.tell_by_client.result c.tell_by_client.new.bytes.items) c.args.call here refl
    refl c.requires.query c.tell_by_client.ensures

pub returns-in-Reading : goal.returns-in-Reading
returns-in-Reading g c =
    let here = rw c.in-Reading.is at c.self.view_is in
    told_reader g.M.Means.means _ c.args.self.now c.in-Reading.reader c.tell_by_reading.new.moment
    (told c.tell_by_reading.result c.tell_by_reading.new.bytes.items) c.args.call here refl c.requires.query
    c.tell_by_reading.ensures

pub returns-in_default : goal.returns-in_default
returns-in_default g c =
    let none = neither c.self.inside.sitting c.in_default.not-Client c.in_default.not-Reading in
    told_nobody g.M.Means.means _ c.args.self.now c.absent.result c.args.bytes.now.items c.args.call c.self.view_is
    none.0 none.1 c.absent.ensures c.requires.empty c.requires.query
