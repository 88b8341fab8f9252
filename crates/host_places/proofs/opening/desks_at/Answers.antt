use Rattle.std.proofs.Common.{IfOk, subst, sym}
use Rattle.std.specs.List.{All}
use Rattle.rebase.specs.Clients.{Grouped}
use Rattle.host_places.specs.Opening.{IsFreshPlace, SawOpening}
use Rattle.host_places.proofs.opening.desks_at.Goals as goal

pub returns-clause-new : goal.returns-clause-new
returns-clause-new g c = λ commit all.
    subst (λ (group : Grouped). IfOk c.desks_of.result
    (λ desks. All (λ d. IsFreshPlace group commit d.place) desks.items))
    c.in_ok-group.ensures.ok (c.desks_of.ensures.new commit
    (subst (λ (group : Grouped). All (SawOpening group commit) c.args.seats.free) (sym c.in_ok-group.ensures.ok) all))
