use Rattle.std.proofs.Common.{rules}
use Rattle.reader_claims.specs.Inside.Known.{view}
use Rattle.reader_claims.specs.declared.view.View.{View}
use Rattle.reader_claims.proofs.Moving.{three_moves}
use Rattle.reader_claims.proofs.steps.Words.look_twice.Goals as goal

pub returns-clause-moves : goal.returns-clause-moves
returns-clause-moves c = let v : View = view c.args.reader.now in let u : View = view c.load_epoch-first.new.reader in
    let w : View = view c.store_pin.new.reader in let t : View = view c.load_epoch.new.reader in
    three_moves v u w t _ _ _ _ _ _ _ _ _ c.load_epoch-first.ensures.step c.store_pin.ensures.step.1
    c.load_epoch.ensures.step

pub returns-clause-view : goal.returns-clause-view
returns-clause-view c = search rules
