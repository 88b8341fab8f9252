use Rattle.reader_claims.specs.Inside.Known.{view}
use Rattle.reader_claims.specs.declared.view.View.{View}
use Rattle.reader_claims.proofs.Scans.{later_self, later_tried}
use Rattle.reader_claims.specs.Machine as machine
use Rattle.reader_claims.proofs.Moving.{one_move}
use Rattle.reader_claims.proofs.steps.Words.quick_at.Goals as goal

pub returns-in-Taken-clause-later : goal.returns-in-Taken-clause-later
returns-in-Taken-clause-later c = later_self _

pub returns-else-take-eq-FREE-clause-later : goal.returns-else-take-eq-FREE-clause-later
returns-else-take-eq-FREE-clause-later c = let v : View = view c.args.reader.now in
    let u : View = view c.take.new.reader in later_tried c.take.result _ v u c.take.ensures.won c.take.ensures.lost

pub returns-then-take-eq-FREE-clause-later : goal.returns-then-take-eq-FREE-clause-later
returns-then-take-eq-FREE-clause-later c = let v : View = view c.args.reader.now in
    let u : View = view c.take.new.reader in later_tried c.take.result _ v u c.take.ensures.won c.take.ensures.lost

pub returns-in-Taken-clause-moves : goal.returns-in-Taken-clause-moves
returns-in-Taken-clause-moves c = machine.still _

pub returns-then-take-eq-FREE-clause-moves : goal.returns-then-take-eq-FREE-clause-moves
returns-then-take-eq-FREE-clause-moves c = let v : View = view c.args.reader.now in
    let u : View = view c.take.new.reader in one_move v u _ _ _ c.take.ensures.step

pub returns-else-take-eq-FREE-clause-moves : goal.returns-else-take-eq-FREE-clause-moves
returns-else-take-eq-FREE-clause-moves c = let v : View = view c.args.reader.now in
    let u : View = view c.take.new.reader in one_move v u _ _ _ c.take.ensures.step
