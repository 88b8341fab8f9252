use Rattle.client_desk.proofs.Moving.{gave, gave_at, left_asked}
use Rattle.client_desk.proofs.place.Place.leave_asked.Goals as goal

pub free-requires-clause-at : goal.free-requires-clause-at
free-requires-clause-at g c κs within =
    let means = g.M.Means.means in let a = c.in-Asking.asking in
    gave_at means c.take.new.self.group a c.give_up.result c.in-Asking.ensures.fits.2.1
    (gave means a c.give_up.result c.give_up.ensures.left)

pub returns-in-Asking : goal.returns-in-Asking
returns-in-Asking g c =
    let means = g.M.Means.means in let a = c.in-Asking.asking in let taken = c.in-Asking.ensures in
    left_asked means c.args.self.now c.take.new.self c.free.new.self a c.give_up.result taken.asking taken.left
    (gave means a c.give_up.result c.give_up.ensures.left) c.free.ensures
