use Rattle.std.proofs.Common.{◌∙◌, ◌-◌, ap, take, length, arith}
use Rattle.std.proofs.lemmas.List.{drop-replicate}
use Rattle.group_history.specs.Inside.Fronts.{front_of}
use Rattle.group_history.proofs.Fronts.{front-zeros, front-cut}
use Rattle.group_history.proofs.texts.packed.front_of_bytes.Goals as goal

pub returns-clause-front : goal.returns-clause-front
returns-clause-front c =
    let k = c.min-len.result in
    let source = take k c.args.text.now in
    let room = c.copy_in.new.room in
    let n = length source in
    c.front_of_room.ensures.front
    ∙ front-zeros n (16 - n) room (c.copy_in.ensures.rest ∙ drop-replicate n 16 0)
    ∙ ap front_of c.copy_in.ensures.front
    ∙ front-cut k c.args.text.now (λ l. omega arith)

pub returns-clause-bytes : goal.returns-clause-bytes
returns-clause-bytes c = λ i. (c.type_inv.text i).fits
