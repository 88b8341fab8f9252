use Rattle.host_places.proofs.Opened.{opened_with}
use Rattle.host_places.proofs.opening.open_places.Goals as goal

pub returns-in-Ok-desks_at-clause-opened : goal.returns-in-Ok-desks_at-clause-opened
returns-in-Ok-desks_at-clause-opened g c =
    let e = c.in-Ok.ensures in (
      c.in_ok-config.config,
      c.in_ok-config.ensures,
      opened_with c.in_ok-config.config c.in-Ok.group c.in-Ok.seats.free
          c.in-Ok-desks_at.desks.items e.identity e.count (e.sizes tt) e.opening c.in-Ok-desks_at.ensures.count
          c.in-Ok-desks_at.ensures.new,
    )
