use Rattle.commit_publishing.proofs.Stepping.{no_step}
use Rattle.commit_publishing.proofs.placing.place_all.Goals as goal

pub returns-in_err-reserve_exact-clause-steps : goal.returns-in_err-reserve_exact-clause-steps
returns-in_err-reserve_exact-clause-steps g c = λ r. no_step (g.S.Slots.view c.args.seat.now)
