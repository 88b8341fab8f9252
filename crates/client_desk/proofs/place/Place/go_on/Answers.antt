use Rattle.std.proofs.Common.{refl}
use Rattle.client_desk.proofs.place.Place.go_on.Goals as goal

pub returns-in-Run : goal.returns-in-Run
returns-in-Run g c = rw c.in-Run.is (refl, c.put.ensures)

pub returns-in-Ended : goal.returns-in-Ended
returns-in-Ended g c = rw c.in-Ended.is (c.replied_outcome.ensures, c.put-in-Ended.ensures)
