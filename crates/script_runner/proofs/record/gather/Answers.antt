use Rattle.std.proofs.Common.{◌∙◌, arith, sym}
use Rattle.script_runner.proofs.Closing.{all_seated, all_sit, one_record, still_of_one}
use Rattle.script_runner.proofs.record.gather.Goals as goal

pub unite-requires-clause-one : goal.unite-requires-clause-one
unite-requires-clause-one g c b m =
    still_of_one c.args.turns.now c.read_all_through.new.turns c.read_all_through.ensures c.requires.one

pub unite-requires-clause-all : goal.unite-requires-clause-all
unite-requires-clause-all g c b m =
    all_sit c.args.turns.now c.read_all_through.new.turns c.read_all_through.ensures

pub returns : goal.returns
returns g c = λ count commit seated many some.
    let old = c.args.turns.now in let new = c.read_all_through.new.turns in let h = c.read_all_through.ensures in
    let r = c.unite.ensures count commit (all_seated old new h count commit seated) (many ∙ sym h.count)
    (omega (some, h.count, arith)) in
    (r.0, one_record old new h g.M.Means.means r.0 r.1)
