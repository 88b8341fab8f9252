use Rattle.std.proofs.Common.{◌∙◌, ap, sym, subst, refl, ◌++◌, IsOk}
use Rattle.script_runner.specs.Inside.Turns.{IsPrinted, printed_text}
use Rattle.script_runner.proofs.Turns.{all-more, text-more}
use Rattle.script_runner.proofs.runner.text_of.Goals as goal

pub loop-turn-preserved : goal.loop-turn-preserved
loop-turn-preserved g c =
    let l = c.loop-turn in
    record {
      text = text-more c.args.turns.now l.turn-index c.turn-item.result l.text.items c.extend_from_slice.new.self.items
          c.loop-turn-test.true c.turn-item.is l.invariant.text
          (c.in_ok-extend_from_slice-in-Ok.ensures.items ∙ ap (λ w. l.text.items ++ w)
          (c.deref.ensures.value ∙ sym (ap printed_text c.in-Ok.is)));
      all = all-more IsPrinted c.args.turns.now l.turn-index c.turn-item.result c.loop-turn-test.true c.turn-item.is
          l.invariant.all (subst IsOk (sym c.in-Ok.is) refl);
    }
