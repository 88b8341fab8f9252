use Rattle.client_desk.proofs.Moving.{gave, gave_at, gave_up}
use Rattle.client_desk.proofs.place.Place.give_up.Goals as goal

pub put-requires-clause-fits : goal.put-requires-clause-fits
put-requires-clause-fits g c κs within =
    let means = g.M.Means.means in let a = c.in-Asking.asking in (
      tt,
      gave_at means c.take.new.self.group a c.give_up.result c.in-Asking.ensures.fits.2.1
          (gave means a c.give_up.result c.give_up.ensures.left),
      tt,
      tt,
    )

pub returns-in-Asking : goal.returns-in-Asking
returns-in-Asking g c =
    let means = g.M.Means.means in let a = c.in-Asking.asking in let taken = c.in-Asking.ensures in
    gave_up means c.args.self.now c.take.new.self c.put.new.self a c.give_up.result taken.asking taken.seat
    taken.reading taken.left (gave means a c.give_up.result c.give_up.ensures.left) c.put.ensures
