use Rattle.std.proofs.Common.{◌∷◌, ◌++◌, [], refl, ap}
use Rattle.reader_claims.specs.declared.view.View.{View}
use Rattle.commit_publishing.specs.Inside.Stacks.{HasTaken}
use Rattle.commit_publishing.proofs.Popping.{but_withdrawn, headed, withdrawn}
use Rattle.commit_publishing.proofs.Using.{uses_none, uses_withdrawn}
use Rattle.commit_publishing.proofs.Stepping.{no_step, steps_beside, steps_steps}
use Rattle.commit_publishing.proofs.taking.withdraw_all.Goals as goal

pub loop-slot-init : goal.loop-slot-init
loop-slot-init g c = record {
  home = c.requires.home;
  taken = c.requires.taken;
  used = λ r. ([], uses_none (g.S.Slots.view c.args.seat.now));
  kept = λ r. refl;
  steps = λ r. no_step (g.S.Slots.view c.args.seat.now);
}

pub loop-slot-preserved : goal.loop-slot-preserved
loop-slot-preserved g c =
    let S = g.S.Slots in
    let is = c.loop-slot.invariant in
    let done = c.withdraw.ensures in
    let v = S.view c.loop-slot.seat in
    let u = S.view c.withdraw.new.seat in
    let first = S.view c.args.seat.now in
    let slots = c.loop-slot.slots.items in
    let rest = c.pop.new.self.items in
    let x = c.in-Some.slot in
    let left : S.reused → HasTaken u rest = λ r. withdrawn v u slots rest x c.in-Some.ensures.items (is.taken r)
    (done.view r) in
    record {
      home = done.seat;
      taken = left;
      used = λ r. let had = is.used r in (
        had.0 ++ x ∷ [],
        uses_withdrawn first v u [] had.0 x had.1
            (headed v u slots rest x c.in-Some.ensures.items (is.taken r) (left r))
            (ap (λ (w : View). w.deeds) (done.view r)),
      );
      kept = λ r. but_withdrawn first v u x (is.kept r) (done.view r);
      steps = λ r. steps_steps first v u (is.steps r) (steps_beside v u (ap (λ (w : View). w.epoch_loads) (done.view r))
          (ap (λ (w : View). w.reached) (done.view r)) (ap (λ (w : View). w.pin) (done.view r)));
    }
