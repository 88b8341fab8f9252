use Rattle.std.proofs.Common.{rules, arith, refl, ◌∙◌}
use Rattle.reader_claims.specs.Inside.Known.{view}
use Rattle.reader_claims.specs.declared.view.View.{View}
use Rattle.reader_claims.proofs.Scans.{open_later, closed_later, later_self, later_later, all_more}
use Rattle.reader_claims.specs.Machine as machine
use Rattle.reader_claims.proofs.Moving.{moves_moves}
use Rattle.reader_claims.proofs.steps.Words.scan.Goals as goal

pub try_slot-requires-clause-below : goal.try_slot-requires-clause-below
try_slot-requires-clause-below c = λ r h. let v : View = view c.args.reader.now in
    let u : View = view c.loop-slot.reader in open_later r v u c.loop-slot.invariant.later (c.requires.below r h)

pub try_slot-requires-clause-above : goal.try_slot-requires-clause-above
try_slot-requires-clause-above c = λ r h. let v : View = view c.args.reader.now in
    let u : View = view c.loop-slot.reader in closed_later r v u c.loop-slot.invariant.later (c.requires.above r h)

pub loop-slot-preserved : goal.loop-slot-preserved
loop-slot-preserved c = let v : View = view c.args.reader.now in let u : View = view c.loop-slot.reader in
    let t : View = view c.try_slot.new.reader in let lost = c.try_slot.ensures.shut c.if-try_slot.false in record {
      table = search rules;
      moves = moves_moves v u t c.loop-slot.invariant.moves c.try_slot.ensures.moves;
      from = search rules;
      taken = lost.0 ∙ c.loop-slot.invariant.taken;
      later = later_later v u t c.loop-slot.invariant.later c.try_slot.ensures.later;
      shut = all_more c.args.from c.loop-slot.slot u t c.try_slot.ensures.later c.loop-slot.invariant.shut lost.1;
    }

pub loop-slot-init : goal.loop-slot-init
loop-slot-init c = record {
  table = refl;
  moves = machine.still _;
  from = search rules;
  taken = refl;
  later = later_self _;
  shut = λ i over near. absurd (omega arith);
}

pub returns-then-try_slot-clause-later : goal.returns-then-try_slot-clause-later
returns-then-try_slot-clause-later c = let v : View = view c.args.reader.now in
    let u : View = view c.loop-slot.reader in let t : View = view c.try_slot.new.reader in
    later_later v u t c.loop-slot.invariant.later c.try_slot.ensures.later

pub returns-then-try_slot-clause-moves : goal.returns-then-try_slot-clause-moves
returns-then-try_slot-clause-moves c = let v : View = view c.args.reader.now in
    let u : View = view c.loop-slot.reader in let t : View = view c.try_slot.new.reader in
    moves_moves v u t c.loop-slot.invariant.moves c.try_slot.ensures.moves

pub returns-clause-shut : goal.returns-clause-shut
returns-clause-shut c = λ i over near. c.loop-slot.invariant.shut i over (omega arith)
