use Rattle.std.proofs.Common.{refl}
use Rattle.client_desk.specs.Inside.Reading.{pushed_by}
use Rattle.client_desk.specs.Told.{bytes_told, told}
use Rattle.client_desk.proofs.Telling.{asked_client, asked_nobody, asked_reader, neither}
use Rattle.client_desk.proofs.place.Place.push.Goals as goal

pub returns-in-Client : goal.returns-in-Client
returns-in-Client g c =
    let here = rw c.in-Client.is at c.self.view_is in
    asked_client bytes_told (pushed_by c.args.skip) g.M.Means.means _ c.args.self.now c.in-Client.client
    c.tell_push.new.client c.tell_push.new.moment (told c.tell_push.result c.tell_push.new.bytes.items) here refl refl
    c.tell_push.ensures.0 c.tell_push.ensures.1

pub returns-in-Reading : goal.returns-in-Reading
returns-in-Reading g c =
    let here = rw c.in-Reading.is at c.self.view_is in
    asked_reader bytes_told (pushed_by c.args.skip) g.M.Means.means _ c.args.self.now c.in-Reading.reader
    c.tell_push_as_of.new.moment (told c.tell_push_as_of.result c.tell_push_as_of.new.bytes.items) here refl
    c.tell_push_as_of.ensures.0 c.tell_push_as_of.ensures.1

pub returns-in_default : goal.returns-in_default
returns-in_default g c =
    let none = neither c.self.inside.sitting c.in_default.not-Client c.in_default.not-Reading in
    asked_nobody bytes_told (pushed_by c.args.skip) g.M.Means.means _ c.args.self.now c.absent.result
    c.args.bytes.now.items c.self.view_is none.0 none.1 c.absent.ensures c.requires
