use Rattle.std.proofs.Common.{subst, sym, rules}
use Rattle.commit_publishing.specs.Inside.Steps.{StepsOn}
use Rattle.commit_publishing.proofs.Stepping.{no_step}
use Rattle.commit_publishing.proofs.placing.place_one.Goals as goal

pub returns-in_err-at-clause-steps : goal.returns-in_err-at-clause-steps
returns-in_err-at-clause-steps g c =
    let v = g.S.Slots.view c.args.seat.now in
    λ r. subst (λ s. StepsOn v (g.S.Slots.view s)) (sym c.place.ensures.seat) (no_step v)

pub returns-in_err-push-clause-steps : goal.returns-in_err-push-clause-steps
returns-in_err-push-clause-steps g c =
    let v = g.S.Slots.view c.args.seat.now in
    λ r. subst (λ s. StepsOn v (g.S.Slots.view s)) (sym c.place.ensures.seat) (no_step v)

pub returns-clause-settled : goal.returns-clause-settled
returns-clause-settled g c = search rules
