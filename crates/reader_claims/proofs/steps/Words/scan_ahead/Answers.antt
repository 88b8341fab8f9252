use Rattle.reader_claims.specs.Inside.Known.{view}
use Rattle.reader_claims.specs.declared.view.View.{View}
use Rattle.reader_claims.proofs.Scans.{later_later}
use Rattle.reader_claims.proofs.Moving.{moves_moves}
use Rattle.reader_claims.proofs.steps.Words.scan_ahead.Goals as goal

pub returns-clause-moves : goal.returns-clause-moves
returns-clause-moves c = let v : View = view c.args.reader.now in let u : View = view c.scan.new.reader in
    let t : View = view c.give_ahead.new.reader in moves_moves v u t c.scan.ensures.moves c.give_ahead.ensures.moves

pub returns-clause-later : goal.returns-clause-later
returns-clause-later c = let v : View = view c.args.reader.now in let u : View = view c.scan.new.reader in
    let t : View = view c.give_ahead.new.reader in later_later v u t c.scan.ensures.later c.give_ahead.ensures.later
