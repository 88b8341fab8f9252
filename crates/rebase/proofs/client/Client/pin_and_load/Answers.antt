use Rattle.std.proofs.Common.{rules, sym, ◌∙◌}
use Rattle.rebase.proofs.Keeping.{keeps_later, where_ok}
use Rattle.rebase.proofs.client.Client.pin_and_load.Goals as goal

pub invariant_of-self : goal.invariant_of-self
invariant_of-self g c =
    let k = c.self.inside in let e = c.pin_and_load-at.ensures in (
      keeps_later g.S.Slots.reused _ k.seat c.pin_and_load-at.new.seat k.id k.last k.found k.latest e.looked.seat
          (λ r. (e.looked.calm r).taken ∙ c.self.invariant.0.none r) c.self.invariant.0,
      λ r is. where_ok c.pin_and_load-at.result (sym c.is_ok-self-inside.ensures.value ∙ is) (e.held r),
    )

pub returns-clause-reads : goal.returns-clause-reads
returns-clause-reads g c = search rules
