use Rattle.client_desk.proofs.Moving.{can_sit}
use Rattle.client_desk.proofs.place.Place.put.Goals as goal

pub invariant_of-self : goal.invariant_of-self
invariant_of-self g c =
    let fits = can_sit g.M.Hosted.had g.M.Means.means _ c.args.self.now c.replace-before.new.dest c.args.sitting
    c.self.view_is c.replace-before.ensures.after c.requires.fits in
    (fits.0, fits.1, fits.2, fits.3, c.self.invariant.4)
