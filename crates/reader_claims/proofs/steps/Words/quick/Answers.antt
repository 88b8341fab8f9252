use Rattle.std.proofs.Common.{rules, refl, ◌∙◌}
use Rattle.reader_claims.specs.Inside.Known.{view}
use Rattle.reader_claims.specs.declared.view.View.{View}
use Rattle.reader_claims.proofs.Scans.{later_self, later_later}
use Rattle.reader_claims.proofs.Looks.{took_further}
use Rattle.reader_claims.specs.Machine as machine
use Rattle.reader_claims.proofs.Moving.{moves_moves}
use Rattle.reader_claims.proofs.steps.Words.quick.Goals as goal

pub loop-slot-init : goal.loop-slot-init
loop-slot-init c = record { table = refl; moves = machine.still _; taken = refl; later = later_self _ }

pub returns-in_default : goal.returns-in_default
returns-in_default c = let v : View = view c.args.reader.now in let u : View = view c.loop-slot.reader in
    let t : View = view c.quick_at-look.new.reader in record {
      table = search rules;
      moves = moves_moves v u t c.loop-slot.invariant.moves c.quick_at-look.ensures.moves;
      later = later_later v u t c.loop-slot.invariant.later c.quick_at-look.ensures.later;
      taken = took_further _ _ _ v u t (search rules) c.loop-slot.invariant.taken c.quick_at-look.ensures.taken;
    }

pub loop-slot-preserved : goal.loop-slot-preserved
loop-slot-preserved c = let v : View = view c.args.reader.now in let u : View = view c.loop-slot.reader in
    let t : View = view c.quick_at-look.new.reader in record {
      table = search rules;
      moves = moves_moves v u t c.loop-slot.invariant.moves c.quick_at-look.ensures.moves;
      taken = c.in-Nothing.ensures.taken ∙ c.loop-slot.invariant.taken;
      later = later_later v u t c.loop-slot.invariant.later c.quick_at-look.ensures.later;
    }
