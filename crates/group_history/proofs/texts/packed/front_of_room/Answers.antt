use Rattle.group_history.proofs.Fronts.{front-chunk}
use Rattle.group_history.proofs.texts.packed.front_of_room.Goals as goal

pub returns-clause-front : goal.returns-clause-front
returns-clause-front c =
    front-chunk _ c.args.room.now c.in-Some.front.now c.from_be_bytes.ensures c.in-Some.ensures.cases.same

pub returns-clause-bytes : goal.returns-clause-bytes
returns-clause-bytes c = λ i. (c.type_inv.room i).fits
