use Rattle.std.proofs.Common.{ap, ◌∙◌}
use Rattle.std.specs.Option.{option_or}
use Rattle.client_desk.proofs.Moving.{at_looked, left_place, left_reading}
use Rattle.client_desk.proofs.place.Place.leave.Goals as goal

pub free-requires-in-Reading-clause-at : goal.free-requires-in-Reading-clause-at
free-requires-in-Reading-clause-at g c κs within =
    at_looked c.take.new.self.group c.in-Reading.reader c.end.result c.in-Reading.ensures.fits.3 c.end.ensures.stays

pub returns-in-Client : goal.returns-in-Client
returns-in-Client g c =
    let taken = c.in-Client.ensures in let b = c.args.self.now in
    left_place b c.take.new.self c.free.new.self c.in-Client.client (ap (λ o. option_or o b.reading) taken.client)
    taken.left c.free.ensures

pub returns-in-Reading : goal.returns-in-Reading
returns-in-Reading g c =
    let taken = c.in-Reading.ensures in let b = c.args.self.now in let reader = c.in-Reading.reader in
    let new = c.free-in-Reading.new.self in
    left_place b c.take.new.self new reader (taken.reading ∙ ap (λ o. option_or o b.reading) taken.client) taken.left
    (left_reading reader c.end.result c.take.new.self new c.end.ensures.stays c.end.ensures.mark
    c.free-in-Reading.ensures)
