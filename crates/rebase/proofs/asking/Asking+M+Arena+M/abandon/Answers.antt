use Rattle.std.proofs.Common.{◌≡◌, None, Some, sym, subst}
use Rattle.linearized.specs.Answered.{own_moves}
use Rattle.change_tries.specs.Leaving.{Frees}
use Rattle.rebase.specs.Clients.{AfterChange}
use Rattle.std.specs.Prelude.{⊤}
use Rattle.rebase.specs.Running.{BeganAs, UnderWay}
use Rattle.rebase.specs.Inside.Shown.{under_way}
use Rattle.rebase.proofs.Running.{given_up}
use Rattle.rebase.proofs.asking.Asking+M+Arena+M.abandon.Goals as goal

pub returns : goal.returns
returns g c =
    let means = g.M.Means.means in let a = c.self.inside in
    record {
      left = λ before began.
          let gone = given_up means ⊤ before (under_way a.client a.change a.attempt a.tries) c.unpin_arena.new.self
          (subst (BeganAs means ⊤ before) (sym c.self.view_is) began)
          c.unpin_arena.ensures.stays c.unpin_arena.ensures.mark in
          subst (λ (w : UnderWay). AfterChange ⊤ before c.unpin_arena.new.self
          × (c.unpin_arena.new.self.last ≡ before.last)
          × (own_moves c.unpin_arena.new.self.seat.mark ≡ own_moves before.seat.mark)
          × Frees (Some w.change) 0 before.seat c.unpin_arena.new.self.seat None) c.self.view_is
          (gone.0, gone.1, gone.2, gone.3 tt);
    }
