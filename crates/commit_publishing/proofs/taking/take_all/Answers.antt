use Rattle.std.proofs.Common.{◌≡◌, ◌<◌, ◌++◌, [], length, ap, subst, sym, ◌∙◌, arith, length-append}
use Rattle.std.proofs.lemmas.List.Elements.{All-append}
use Rattle.reader_claims.specs.Seats.{kind_end}
use Rattle.commit_publishing.specs.Inside.Stacks.{AreLower, Uses}
use Rattle.commit_publishing.proofs.Lying.{none_below, taken_below}
use Rattle.commit_publishing.proofs.Passing.{all_shut_as, knows_withdrawn, pins_as}
use Rattle.commit_publishing.proofs.Popping.{length_taken}
use Rattle.commit_publishing.proofs.Using.{taken_back, uses_uses}
use Rattle.commit_publishing.proofs.Stepping.{no_step, steps_steps}
use Rattle.commit_publishing.proofs.taking.take_all.Goals as goal

pub returns-in_err-slots-clause-steps : goal.returns-in_err-slots-clause-steps
returns-in_err-slots-clause-steps g c = λ r. no_step (g.S.Slots.view c.args.seat.now)

pub returns-in-Err-clause-steps : goal.returns-in-Err-clause-steps
returns-in-Err-clause-steps g c =
    let view = g.S.Slots.view in λ r. steps_steps (view c.args.seat.now) (view c.take_more.new.seat)
    (view c.withdraw_all.new.seat) (c.take_more.ensures.steps r) (c.withdraw_all.ensures.steps r)

pub returns-in-Err-clause-given : goal.returns-in-Err-clause-given
returns-in-Err-clause-given g c = λ r.
    let v = g.S.Slots.view c.args.seat.now in
    let m = g.S.Slots.view c.take_more.new.seat in
    let u = g.S.Slots.view c.withdraw_all.new.seat in
    let (w, taken, back, one, low, only, used) = c.in-Err.ensures.used r in
    let all = uses_uses w m u [] back m.taken used (c.withdraw_all.ensures.used r) in
    let whole : w.taken ≡ back ++ m.taken = used.0 in
    let end = kind_end (g.S.Slots.serves c.args.store.now).sizes c.args.kind in
    let held = taken_below end m c.take_more.new.slots.items (c.take_more.ensures.taken r)
    (c.take_more.ensures.within r (none_below end _ c.in_ok-slots.ensures.items)) in
    let few : length m.taken < c.args.count = subst (λ n. n < c.args.count)
    (sym (length_taken m c.take_more.new.slots.items (c.take_more.ensures.taken r)))
    (omega (arith, c.in-Err.ensures.few, ap length c.in_ok-slots.ensures.items)) in (
      w.taken,
      omega (arith, ap length whole, length-append back m.taken, one, few),
      subst (AreLower end) (sym whole) (All-append (λ i. i < end) back m.taken low held),
      taken_back v w u taken only (c.requires.none r) (subst (λ is. Uses w [] is u) (sym whole) all),
    )

pub returns-in-Err-clause-full : goal.returns-in-Err-clause-full
returns-in-Err-clause-full g c = λ r is.
    let v = g.S.Slots.view c.args.seat.now in
    let m = g.S.Slots.view c.take_more.new.seat in
    let u = g.S.Slots.view c.withdraw_all.new.seat in
    let (loaded, epoch, pins, shut) = c.in-Err.ensures.full r is in
    let only = c.in-Err.ensures.none r is in
    let k = knows_withdrawn m u (c.withdraw_all.ensures.kept r) in
    record {
      loads = omega (arith, loaded, k.loads);
      epoch = k.loaded ∙ epoch ∙ sym k.reached;
      pins = pins_as m u k pins;
      own = m.taken;
      few = subst (λ n. n < c.args.count)
          (sym (length_taken m c.take_more.new.slots.items (c.take_more.ensures.taken r)))
          (omega (arith, c.in-Err.ensures.few, ap length c.in_ok-slots.ensures.items));
      before = v.deeds;
      back = taken_back v m u only.0 only.1 (c.requires.none r) (c.withdraw_all.ensures.used r);
      slots = all_shut_as m.taken _ m u k shut;
    }
