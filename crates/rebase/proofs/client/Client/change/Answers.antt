use Rattle.std.proofs.Common.{Some, subst, sym}
use Rattle.linearized.specs.Answered.{IsLinearized}
use Rattle.change_tries.specs.Changing.{is_made}
use Rattle.change_tries.specs.Leaving.{Frees, spared}
use Rattle.change_tries.specs.Missing.{map_ok}
use Rattle.change_tries.specs.Proposing.{AsksNext, asked_reply, change_asked}
use Rattle.rebase.specs.Clients.{ClientState}
use Rattle.rebase.proofs.Keeping.{keeps_found}
use Rattle.rebase.proofs.client.Client.change.Goals as goal

pub invariant_of-self : goal.invariant_of-self
invariant_of-self g c =
    let k = c.self.inside in let e = c.make_change-made.ensures in (
      keeps_found g.S.Slots.reused _ k.seat c.make_change-made.new.seat k.id k.last k.found k.latest
          c.make_change-made.new.found c.args.change.now
          (subst (λ (w : ClientState). AsksNext w.id w.last c.args.change.now) (sym c.self.view_is) c.requires.next)
          e.kept e.seat (λ r. (e.idle r).1) c.self.invariant.0,
      λ r no. absurd (cc no),
    )

pub returns-clause-answer : goal.returns-clause-answer
returns-clause-answer g c =
    let means = g.M.Means.means in let change = c.args.change.now in
    subst (λ (before : ClientState). IsLinearized means c.args.tries before.seat.mark c.make_change-made.new.seat.mark
    (map_ok is_made c.make_change-made.result) (change_asked change) (λ s. asked_reply means s before.last change))
    c.self.view_is c.make_change-made.ensures.answer

pub returns-clause-frees : goal.returns-clause-frees
returns-clause-frees g c r =
    let change = c.args.change.now in let made = c.make_change-made.result in
    subst (λ (before : ClientState). Frees (Some change) (spared made) before.seat c.make_change-made.new.seat
    (change_asked change (map_ok is_made made))) c.self.view_is (c.make_change-made.ensures.frees r)
