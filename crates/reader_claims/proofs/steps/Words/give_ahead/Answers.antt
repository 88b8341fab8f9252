use Rattle.std.proofs.Common.{rules, refl, ◌∙◌}
use Rattle.reader_claims.specs.Inside.Known.{view}
use Rattle.reader_claims.specs.Machine as machine
use Rattle.reader_claims.specs.declared.view.View.{View}
use Rattle.reader_claims.proofs.Scans.{later_self, later_later}
use Rattle.reader_claims.proofs.Moving.{moves_moves}
use Rattle.reader_claims.proofs.steps.Words.give_ahead.Goals as goal

pub loop-slot-init : goal.loop-slot-init
loop-slot-init c = record { table = refl; moves = machine.still _; taken = refl; later = later_self _ }

pub loop-slot-preserved : goal.loop-slot-preserved
loop-slot-preserved c = let v : View = view c.args.reader.now in let u : View = view c.loop-slot.reader in
    let t : View = view c.give_if_open.new.reader in record {
      table = search rules;
      moves = moves_moves v u t c.loop-slot.invariant.moves c.give_if_open.ensures.moves;
      taken = c.give_if_open.ensures.taken ∙ c.loop-slot.invariant.taken;
      later = later_later v u t c.loop-slot.invariant.later c.give_if_open.ensures.later;
    }

pub returns-then-self-lt-MANY_SEATS-clause-moves : goal.returns-then-self-lt-MANY_SEATS-clause-moves
returns-then-self-lt-MANY_SEATS-clause-moves c = machine.still _

pub returns-then-self-lt-MANY_SEATS-clause-later : goal.returns-then-self-lt-MANY_SEATS-clause-later
returns-then-self-lt-MANY_SEATS-clause-later c = later_self _
