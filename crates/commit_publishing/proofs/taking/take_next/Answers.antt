use Rattle.std.proofs.Common.{◌≡◌, ◌∷◌, ◌++◌, [], refl, arith, ap, subst, sym, rules}
use Rattle.reader_claims.specs.declared.view.View.{View}
use Rattle.commit_publishing.specs.Inside.Stacks.{HasTaken}
use Rattle.commit_publishing.proofs.Lying.{one_below}
use Rattle.commit_publishing.proofs.Popping.{headed, pushed, withdrawn}
use Rattle.commit_publishing.proofs.Stepping.{steps_beside, steps_keeping, steps_steps}
use Rattle.commit_publishing.proofs.taking.take_next.Goals as goal

pub returns-then-is_err-clause-taken : goal.returns-then-is_err-clause-taken
returns-then-is_err-clause-taken g c = λ r.
    let v = g.S.Slots.view c.args.seat.now in
    let u = g.S.Slots.view c.take_slot.new.seat in
    let w = g.S.Slots.view c.withdraw.new.seat in
    let slots = c.args.slots.now.items in
    let x = c.in-Some.slot in
    let kept : c.push.new.self.items ≡ slots = search rules in
    subst (HasTaken w) (sym kept) (withdrawn u w (slots ++ x ∷ []) slots x refl
    (pushed v u slots x (c.requires.taken r) (c.in-Some.ensures.taken r).1) (c.withdraw.ensures.view r))

pub returns-then-is_err-clause-used : goal.returns-then-is_err-clause-used
returns-then-is_err-clause-used g c = λ r.
    let v = g.S.Slots.view c.args.seat.now in
    let u = g.S.Slots.view c.take_slot.new.seat in
    let w = g.S.Slots.view c.withdraw.new.seat in
    let slots = c.args.slots.now.items in
    let x = c.in-Some.slot in
    let takes = (c.in-Some.ensures.taken r).1 in
    let had = pushed v u slots x (c.requires.taken r) takes in
    let left = withdrawn u w (slots ++ x ∷ []) slots x refl had (c.withdraw.ensures.view r) in (
      u,
      x ∷ [],
      omega arith,
      one_below _ x (c.in-Some.ensures.taken r).0,
      (takes.1, c.in-Some.ensures.deeds r),
      (
        headed u w (slots ++ x ∷ []) slots x refl had left,
        ap (λ (y : View). y.deeds) (c.withdraw.ensures.view r),
      ),
    )

pub returns-then-is_err-clause-steps : goal.returns-then-is_err-clause-steps
returns-then-is_err-clause-steps g c = λ r.
    let v = g.S.Slots.view c.args.seat.now in
    let u = g.S.Slots.view c.take_slot.new.seat in
    let w = g.S.Slots.view c.withdraw.new.seat in
    let looks = c.take_slot.ensures.looks r in
    steps_steps v u w (steps_keeping v u looks.loads looks.reached looks.pin)
    (steps_beside u w (ap (λ (x : View). x.epoch_loads) (c.withdraw.ensures.view r))
    (ap (λ (x : View). x.reached) (c.withdraw.ensures.view r)) (ap (λ (x : View). x.pin) (c.withdraw.ensures.view r)))
