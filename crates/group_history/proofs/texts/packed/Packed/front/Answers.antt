use Rattle.std.proofs.Common.{◌∙◌, ◌-◌}
use Rattle.group_history.proofs.Fronts.{front-zeros, bytes-zeros}
use Rattle.group_history.proofs.texts.packed.Packed.front.Goals as goal

pub returns-clause-front : goal.returns-clause-front
returns-clause-front g c =
    let p = c.args.self.now in
    c.front_of_room.ensures.front ∙ front-zeros p.len (g.row.N - p.len) p.bytes p.zeros

pub returns-clause-bytes : goal.returns-clause-bytes
returns-clause-bytes g c =
    let p = c.args.self.now in
    bytes-zeros p.len (g.row.N - p.len) p.bytes p.zeros c.front_of_room.ensures.bytes
