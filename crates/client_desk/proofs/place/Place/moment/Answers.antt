use Rattle.std.proofs.Common.{refl}
use Rattle.client_desk.proofs.Telling.{moment_client, moment_nobody, moment_reader, neither}
use Rattle.client_desk.proofs.place.Place.moment.Goals as goal

pub returns-in-Client : goal.returns-in-Client
returns-in-Client g c =
    let here = rw c.in-Client.is at c.self.view_is in let e = c.moment.ensures in
    moment_client g.M.Means.means _ c.args.self.now c.in-Client.client c.moment.new.self c.moment.result here refl refl
    e.point e.looked e.view e.same e.moment

pub returns-in-Reading : goal.returns-in-Reading
returns-in-Reading g c =
    let here = rw c.in-Reading.is at c.self.view_is in
    moment_reader g.M.Means.means _ c.args.self.now c.in-Reading.reader c.moment-in-Reading.result here refl
    c.moment-in-Reading.ensures

pub returns-in_default : goal.returns-in_default
returns-in_default g c =
    let none = neither c.self.inside.sitting c.in_default.not-Client c.in_default.not-Reading in
    moment_nobody g.M.Means.means _ c.args.self.now c.absent.result c.self.view_is none.0 none.1 c.absent.ensures
