use Rattle.std.proofs.Common.{refl}
use Rattle.client_desk.proofs.Telling.{refreshed}
use Rattle.client_desk.proofs.place.Place.refresh.Goals as goal

pub returns : goal.returns
returns g c =
    let here = rw c.in-Client.is at c.self.view_is in let e = c.refresh.ensures in
    refreshed g.M.Means.means _ c.args.self.now c.in-Client.client c.refresh.new.self c.refresh.result
    c.id_outcome.result
    here refl e.answer e.last e.left e.missed e.looks c.id_outcome.ensures
