use Rattle.std.proofs.Common.{◌≤◌, ◌<◌, length, vec_len, sym, arith}
use Rattle.std.proofs.lemmas.Bool.{false≢true}
use Rattle.std.proofs.lemmas.Result.{on_ok_weaker}
use Rattle.script_parser.specs.Names.{noted, with_name}
use Rattle.script_parser.proofs.Changes.{set-changed_at}
use Rattle.script_parser.proofs.Numbering.{number_made-past, noted-past}
use Rattle.script_parser.proofs.names.Names.note.Goals as goal

pub returns-in-Some-clause-noted : goal.returns-in-Some-clause-noted
unfolding noted
returns-in-Some-clause-noted c =
    let names = c.args.self.now.clients.items in let name = c.args.name.now in
    on_ok_weaker c.note.result (λ is. set-changed_at (with_name name) names c.args.client c.in-Some.names.now
    c.note.new.self c.in-Some.ensures.value is) c.note.ensures.noted

pub returns-in-None-clause-number : goal.returns-in-None-clause-number
returns-in-None-clause-number c =
    let clients = c.args.self.now.clients in
    let never : ¬ (c.args.client < vec_len clients) = λ there. false≢true (c.in-None.ensures.variant.1 there) in
    let past : length clients.items ≤ c.args.client = omega (arith, clients.ok.0, never) in
    sym (number_made-past c.args.client c.args.name.now clients.items past)

pub returns-in-None-clause-noted : goal.returns-in-None-clause-noted
returns-in-None-clause-noted c =
    let clients = c.args.self.now.clients in
    let never : ¬ (c.args.client < vec_len clients) = λ there. false≢true (c.in-None.ensures.variant.1 there) in
    let past : length clients.items ≤ c.args.client = omega (arith, clients.ok.0, never) in
    sym (noted-past c.args.client c.args.name.now clients.items past)
