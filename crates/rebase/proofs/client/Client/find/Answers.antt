use Rattle.std.proofs.Common.{◌∙◌}
use Rattle.rebase.proofs.Keeping.{keeps_later}
use Rattle.rebase.proofs.client.Client.find.Goals as goal

pub invariant_of-self : goal.invariant_of-self
invariant_of-self g c =
    let k = c.self.inside in let looked = c.find_last.ensures.looked in (
      keeps_later g.S.Slots.reused _ k.seat c.find_last.new.seat k.id k.last k.found k.latest looked.seat
          (λ r. (looked.calm r).taken ∙ c.self.invariant.0.none r) c.self.invariant.0,
      λ r no. absurd (cc no),
    )
