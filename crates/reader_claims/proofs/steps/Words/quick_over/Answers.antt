use Rattle.std.proofs.Common.{rules, refl, ◌∙◌}
use Rattle.reader_claims.specs.Inside.Known.{view}
use Rattle.reader_claims.specs.declared.view.View.{View}
use Rattle.reader_claims.proofs.Scans.{later_self, later_later}
use Rattle.reader_claims.specs.Machine as machine
use Rattle.reader_claims.proofs.Moving.{moves_moves}
use Rattle.reader_claims.proofs.Looks.{took_nothing}
use Rattle.reader_claims.proofs.steps.Words.quick_over.Goals as goal

pub loop-slot-init : goal.loop-slot-init
loop-slot-init c = record { table = refl; moves = machine.still _; taken = refl; later = later_self _ }

pub returns-in-Took-clause-moves : goal.returns-in-Took-clause-moves
returns-in-Took-clause-moves c = let v : View = view c.args.reader.now in let u : View = view c.loop-slot.reader in
    let t : View = view c.quick_at.new.reader in
    moves_moves v u t c.loop-slot.invariant.moves c.quick_at.ensures.moves

pub returns-in-Took-clause-later : goal.returns-in-Took-clause-later
returns-in-Took-clause-later c = let v : View = view c.args.reader.now in let u : View = view c.loop-slot.reader in
    let t : View = view c.quick_at.new.reader in
    later_later v u t c.loop-slot.invariant.later c.quick_at.ensures.later

pub loop-slot-preserved : goal.loop-slot-preserved
loop-slot-preserved c = let v : View = view c.args.reader.now in let u : View = view c.loop-slot.reader in
    let t : View = view c.quick_at.new.reader in record {
      table = search rules;
      moves = moves_moves v u t c.loop-slot.invariant.moves c.quick_at.ensures.moves;
      taken = took_nothing c.quick_at.result _ u t c.in_default.not-Took c.quick_at.ensures.taken
          ∙ c.loop-slot.invariant.taken;
      later = later_later v u t c.loop-slot.invariant.later c.quick_at.ensures.later;
    }
