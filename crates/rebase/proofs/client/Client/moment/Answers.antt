use Rattle.std.proofs.Common.{◌≡◌, ◌≤◌, ℕ, true, ap, sym, subst, ◌∙◌}
use Rattle.group_history.specs.Refs.{stamp_of}
use Rattle.head_word.specs.Books.{record_of}
use Rattle.head_word.specs.Laws.{moment}
use Rattle.reader_claims.specs.declared.view.View.{View}
use Rattle.commit_graph.specs.Seats.{is_held}
use Rattle.rebase.proofs.Keeping.{keeps_later}
use Rattle.rebase.proofs.client.Client.moment.Goals as goal

pub invariant_of-self : goal.invariant_of-self
invariant_of-self g c =
    let k = c.self.inside in let e = c.look_on-at.ensures in (
      keeps_later g.S.Slots.reused _ k.seat c.look_on-at.new.seat k.id k.last k.found k.latest e.looked.seat
          (λ r. (e.looked.calm r).taken ∙ c.self.invariant.0.none r) c.self.invariant.0,
      λ r is. subst (λ (v : View). is_held v.pin ≡ true) (sym e.view) (c.self.invariant.1 r is),
    )

pub returns-clause-rises : goal.returns-clause-rises
returns-clause-rises g c log begins =
    let e = c.look_on-at.ensures in let new = c.look_on-at.new.seat.mark.log in
    let now : moment new ≡ c.stamp.result = ap stamp_of (sym e.last) ∙ sym c.stamp.ensures.stamp in
    let laws = c.book_laws.ensures g.M.Means.means in
    subst (λ (n : ℕ). (moment log ≤ n) × (moment log ≡ n → record_of log ≡ record_of new)) now
    (laws.moments_rise log new begins e.opened)
