use Rattle.std.proofs.Common.{◌≤◌, ◌∙◌, length, sym, arith}
use Rattle.std.proofs.lemmas.Bool.Decides.{nat_tests}
use Rattle.script_parser.proofs.Numbering.{number_of-past}
use Rattle.script_parser.proofs.names.Names.number_of.Goals as goal

pub returns-in_err-get : goal.returns-in_err-get
returns-in_err-get c =
    let names = c.args.self.now.clients.items in
    let there = rw c.deref.ensures.value at c.in_err-get.ensures.lookup in
    let past : length names ≤ c.args.client = grind (arith, nat_tests, there.0) in
    c.from_residual.ensures ∙ sym (number_of-past c.args.client c.args.name.now names past)
