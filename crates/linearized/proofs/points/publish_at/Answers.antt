use Rattle.linearized.proofs.Moving.{point_moved, state_there}
use Rattle.linearized.proofs.points.publish_at.Goals as goal

pub returns-clause-won : goal.returns-clause-won
returns-clause-won g c s spells =
    let means = g.M.Means.means in
    let won = c.in_ok-publish.ensures.won in
    let old = c.args.mark.now in
    let new = c.publish.new.mark in (
      won.0,
      point_moved means old new c.args.new c.args.change.now won.0 won.1 won.4 c.legal.ensures.opened
          c.in_ok-publish.ensures.once,
      state_there means old.log won.0 c.args.base s won.1 won.2 won.3 spells,
    )
