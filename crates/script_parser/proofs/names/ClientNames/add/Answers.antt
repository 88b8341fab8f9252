use Rattle.std.proofs.Common.{◌++◌, [], ◌∷◌, ◌∙◌, length, sym, ap}
use Rattle.std.specs.String.{string_bytes}
use Rattle.script_parser.proofs.Numbering.{Adds, Adds-from, IsNumbering-add, names_in-add, length-names_in}
use Rattle.script_parser.proofs.names.ClientNames.add.Goals as goal

pub invariant_of-self-2 : goal.invariant_of-self-2
invariant_of-self-2 c =
    let updates = c.in_ok-insert.ensures in
    let adds : Adds c.self.inside.numbers c.insert.new.self c.in_ok-name.name c.len-number.result =
    Adds-from c.args.name.now c.args.self.now c.self.view_is c.in_ok-name.ensures.ok c.requires c.len-number.ensures.len
    updates.entries updates.updates in
    IsNumbering-add c.self.invariant adds

pub returns-clause-number : goal.returns-clause-number
returns-clause-number c =
    c.len-number.ensures.len ∙ sym (length-names_in c.self.inside.numbers.entries) ∙ ap length c.self.view_is

pub returns-clause-added : goal.returns-clause-added
returns-clause-added c =
    let updates = c.in_ok-insert.ensures in
    let adds : Adds c.self.inside.numbers c.insert.new.self c.in_ok-name.name c.len-number.result =
    Adds-from c.args.name.now c.args.self.now c.self.view_is c.in_ok-name.ensures.ok c.requires c.len-number.ensures.len
    updates.entries updates.updates in
    names_in-add c.self.invariant adds ∙ ap (λ names. names ++ string_bytes c.in_ok-name.name ∷ []) c.self.view_is
    ∙ ap (λ name. c.args.self.now ++ name ∷ []) c.in_ok-name.ensures.ok
