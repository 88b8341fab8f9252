use Rattle.reader_claims.specs.Inside.Known.{view}
use Rattle.reader_claims.specs.declared.view.View.{View}
use Rattle.reader_claims.proofs.Scans.{found_by_look, found_by_take, later_later, later_look, later_tried}
use Rattle.reader_claims.proofs.Moving.{one_move, moves_moves}
use Rattle.reader_claims.proofs.steps.Words.take_if_free.Goals as goal

pub returns-then-seen-ne-FREE-clause-moves : goal.returns-then-seen-ne-FREE-clause-moves
returns-then-seen-ne-FREE-clause-moves c = one_move _ _ _ _ _ c.look_slot-seen.ensures.step

pub returns-then-seen-ne-FREE-clause-later : goal.returns-then-seen-ne-FREE-clause-later
returns-then-seen-ne-FREE-clause-later c = later_look _ _ _ _ c.look_slot-seen.ensures.view

pub returns-then-seen-ne-FREE-clause-lost : goal.returns-then-seen-ne-FREE-clause-lost
returns-then-seen-ne-FREE-clause-lost c = found_by_look _ _ _ _ c.look_slot-seen.ensures.view
    c.look_slot-seen.ensures.own

pub returns-clause-moves : goal.returns-clause-moves
returns-clause-moves c = let v : View = view c.args.reader.now in let m : View = view c.look_slot-seen.new.reader in
    let u : View = view c.take.new.reader in
    moves_moves v m u (one_move v m _ _ _ c.look_slot-seen.ensures.step) (one_move m u _ _ _ c.take.ensures.step)

pub returns-clause-later : goal.returns-clause-later
returns-clause-later c = let v : View = view c.args.reader.now in let m : View = view c.look_slot-seen.new.reader in
    let u : View = view c.take.new.reader in
    later_later v m u (later_look v m _ _ c.look_slot-seen.ensures.view)
    (later_tried c.take.result _ m u c.take.ensures.won c.take.ensures.lost)

pub returns-clause-lost : goal.returns-clause-lost
returns-clause-lost c = λ ne. let v : View = view c.args.reader.now in
    let m : View = view c.look_slot-seen.new.reader in let u : View = view c.take.new.reader in
    found_by_take v m u _ _ _ c.look_slot-seen.ensures.view (c.take.ensures.lost ne) (c.take.ensures.own ne)
