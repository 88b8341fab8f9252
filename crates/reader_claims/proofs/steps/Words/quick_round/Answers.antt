use Rattle.std.proofs.Common.{rules}
use Rattle.reader_claims.specs.Inside.Known.{view}
use Rattle.reader_claims.specs.declared.view.View.{View}
use Rattle.reader_claims.proofs.Scans.{later_later}
use Rattle.reader_claims.proofs.Looks.{took_further}
use Rattle.reader_claims.proofs.Moving.{moves_moves}
use Rattle.reader_claims.proofs.steps.Words.quick_round.Goals as goal

pub returns-clause-later : goal.returns-clause-later
returns-clause-later c = let v : View = view c.args.reader.now in let u : View = view c.quick_few-look.new.reader in
    let t : View = view c.quick_whole.new.reader in
    later_later v u t c.quick_few-look.ensures.later c.quick_whole.ensures.later

pub returns-clause-taken : goal.returns-clause-taken
returns-clause-taken c = let v : View = view c.args.reader.now in let u : View = view c.quick_few-look.new.reader in
    let t : View = view c.quick_whole.new.reader in
    took_further _ _ _ v u t (search rules) c.in-Nothing.ensures.taken c.quick_whole.ensures.taken

pub returns-clause-moves : goal.returns-clause-moves
returns-clause-moves c = let v : View = view c.args.reader.now in let u : View = view c.quick_few-look.new.reader in
    let t : View = view c.quick_whole.new.reader in
    moves_moves v u t c.quick_few-look.ensures.moves c.quick_whole.ensures.moves
