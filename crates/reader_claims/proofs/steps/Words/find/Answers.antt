use Rattle.reader_claims.specs.Inside.Known.{view}
use Rattle.reader_claims.specs.declared.view.View.{View}
use Rattle.reader_claims.proofs.Moving.{moves_moves}
use Rattle.reader_claims.proofs.Options.{known_passed}
use Rattle.reader_claims.proofs.Scans.{later_looks}
use Rattle.reader_claims.proofs.steps.Words.find.Goals as goal

pub returns-in-Retired-clause-moves : goal.returns-in-Retired-clause-moves
returns-in-Retired-clause-moves c = let v : View = view c.args.reader.now in
    let u : View = view c.quick_round.new.reader in let t : View = view c.pass.new.reader in
    moves_moves v u t c.quick_round.ensures.moves c.pass.ensures.moves

pub returns-in-Nothing-clause-moves : goal.returns-in-Nothing-clause-moves
returns-in-Nothing-clause-moves c = let v : View = view c.args.reader.now in
    let u : View = view c.quick_round.new.reader in let t : View = view c.pass-in-Nothing.new.reader in
    moves_moves v u t c.quick_round.ensures.moves c.pass-in-Nothing.ensures.moves

pub returns-in-Retired-clause-looks : goal.returns-in-Retired-clause-looks
returns-in-Retired-clause-looks c = later_looks (view c.args.reader.now) (view c.quick_round.new.reader)
    (view c.pass.new.reader) c.quick_round.ensures.later c.pass.ensures.looks

pub returns-in-Nothing-clause-looks : goal.returns-in-Nothing-clause-looks
returns-in-Nothing-clause-looks c = later_looks (view c.args.reader.now) (view c.quick_round.new.reader)
    (view c.pass-in-Nothing.new.reader) c.quick_round.ensures.later c.pass-in-Nothing.ensures.looks

pub returns-in-Retired-clause-reserve : goal.returns-in-Retired-clause-reserve
returns-in-Retired-clause-reserve c = let v : View = view c.args.reader.now in
    let u : View = view c.quick_round.new.reader in let t : View = view c.pass.new.reader in
    known_passed c.pass.result v u t _ _ c.quick_round.ensures.later c.pass.ensures.taken c.pass.ensures.reserve

pub returns-in-Nothing-clause-reserve : goal.returns-in-Nothing-clause-reserve
returns-in-Nothing-clause-reserve c = let v : View = view c.args.reader.now in
    let u : View = view c.quick_round.new.reader in let t : View = view c.pass-in-Nothing.new.reader in
    known_passed c.pass-in-Nothing.result v u t _ _ c.quick_round.ensures.later c.pass-in-Nothing.ensures.taken
    c.pass-in-Nothing.ensures.reserve
