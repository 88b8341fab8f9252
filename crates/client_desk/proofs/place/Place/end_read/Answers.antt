use Rattle.client_desk.proofs.Moving.{read_ended}
use Rattle.client_desk.proofs.place.Place.end_read.Goals as goal

pub returns-in-Reading : goal.returns-in-Reading
returns-in-Reading g c =
    let taken = c.in-Reading.ensures in
    read_ended c.args.self.now c.take.new.self c.put.new.self c.in-Reading.reader c.end.result taken.reading taken.seat
    taken.asking taken.left c.end.ensures.stays c.end.ensures.mark c.put.ensures
