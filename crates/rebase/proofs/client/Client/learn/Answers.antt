use Rattle.std.proofs.Common.{◌≡◌, true, sym, subst, ◌∙◌}
use Rattle.reader_claims.specs.declared.view.View.{View}
use Rattle.commit_graph.specs.Seats.{is_held}
use Rattle.rebase.proofs.Keeping.{keeps_later}
use Rattle.rebase.proofs.client.Client.learn.Goals as goal

pub invariant_of-self : goal.invariant_of-self
invariant_of-self g c =
    let k = c.self.inside in let e = c.learn_on.ensures in (
      keeps_later g.S.Slots.reused _ k.seat c.learn_on.new.seat k.id k.last k.found k.latest e.looked.seat
          (λ r. (e.looked.calm r).taken ∙ c.self.invariant.0.none r) c.self.invariant.0,
      λ r is. subst (λ (v : View). is_held v.pin ≡ true) (sym e.view) (c.self.invariant.1 r is),
    )
