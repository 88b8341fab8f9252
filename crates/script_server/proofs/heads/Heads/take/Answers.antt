use Rattle.std.proofs.Common.{ap}
use Rattle.script_parser.specs.Reading.{kept_by}
use Rattle.script_server.specs.Inside.Stages.{heads_stand}
use Rattle.script_server.proofs.Answering.{heads_asked, no_command_asked}
use Rattle.script_server.proofs.heads.Heads.take.Goals as goal

pub head_of-requires-clause-none : goal.head_of-requires-clause-none
head_of-requires-clause-none c =
    let taken = c.in-Ok.ensures.taken in
    no_command_asked c.args.number c.in-Ok.asked (kept_by c.args.self.now.reader) taken.0 c.requires.none taken.2

pub returns-in-Ok : goal.returns-in-Ok
returns-in-Ok c =
    let was = heads_stand c.args.self.now in let taken = c.in-Ok.ensures.taken in
    heads_asked c.in-Ok.asked c.head_of.result c.args.number c.args.line.now was c.head_of.new.text.items
    (record was { said = kept_by c.take.new.self }) taken.0 c.requires.none c.requires.other taken.1 taken.2
    (ap (λ s. record was { said = s }) taken.3) c.head_of.ensures
