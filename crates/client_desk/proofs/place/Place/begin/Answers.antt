use Rattle.std.proofs.Common.{refl}
use Rattle.client_desk.proofs.Keeping.{begun_told}
use Rattle.client_desk.proofs.place.Place.begin.Goals as goal

pub returns : goal.returns
returns g c =
    let here = rw c.in-Client.is at c.self.view_is in let e = c.begin_pull-reply.ensures in
    begun_told c.args.keep g.M.Means.means _ c.args.self.now c.in-Client.client c.begin_pull-reply.new.self
    c.begin_pull-reply.result _ _
    c.keep_reply.new.tickets.items here refl e.answer e.err e.stays c.make_room.ensures c.keep_reply.ensures
