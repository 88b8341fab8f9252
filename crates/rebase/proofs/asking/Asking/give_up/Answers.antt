use Rattle.std.proofs.Common.{◌≡◌, None, Some, sym, subst}
use Rattle.linearized.specs.Answered.{own_moves}
use Rattle.change_tries.specs.Leaving.{Frees}
use Rattle.rebase.specs.Clients.{AfterChange}
use Rattle.rebase.specs.Running.{BeganAs, UnderWay}
use Rattle.rebase.specs.Inside.Shown.{under_way}
use Rattle.rebase.proofs.Running.{given_up}
use Rattle.rebase.proofs.asking.Asking.give_up.Goals as goal

pub returns : goal.returns
returns g c =
    let means = g.M.Means.means in let reused = g.S.Slots.reused in
    let a = c.self.inside in
    record {
      left = λ before began. subst (λ (w : UnderWay). AfterChange reused before c.unpin.new.self
          × (c.unpin.new.self.last ≡ before.last)
          × (own_moves c.unpin.new.self.seat.mark ≡ own_moves before.seat.mark)
          × (reused → Frees (Some w.change) 0 before.seat c.unpin.new.self.seat None)) c.self.view_is
          (given_up means reused before (under_way a.client a.change a.attempt a.tries) c.unpin.new.self
          (subst (BeganAs means reused before) (sym c.self.view_is) began) c.unpin.ensures.stays c.unpin.ensures.mark);
    }
