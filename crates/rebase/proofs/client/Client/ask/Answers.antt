use Rattle.std.proofs.Common.{◌≡◌, ℕ, ap, rules, subst, sym}
use Rattle.std.specs.Arc.{arc_value}
use Rattle.commit_graph.specs.Seats.{IsSameSeat, SeatState}
use Rattle.change_tries.specs.Tries.{TellsProgress}
use Rattle.rebase.specs.Clients.{ClientState, grouped}
use Rattle.rebase.proofs.Keeping.{keeps_found}
use Rattle.change_tries.specs.Proposing.{AsksNext}
use Rattle.change_tries.proofs.Since.{since_self}
use Rattle.rebase.proofs.Running.{first_shown, progress_none}
use Rattle.rebase.proofs.client.Client.ask.Goals as goal

pub invariant_of-client : goal.invariant_of-client
invariant_of-client g c =
    let means = g.M.Means.means in let reused = g.S.Slots.reused in
    let k = c.client.inside in let e = c.ask_from-progress.ensures in let new = c.ask_from-progress.new.seat in (
      keeps_found reused _ k.seat new k.id k.last k.found k.latest c.ask_from-progress.new.found c.args.change
          (subst (λ (w : ClientState). AsksNext w.id w.last c.args.change) (sym c.client.view_is) c.requires.next)
          e.kept
          e.seat (progress_none g.M.Has.has means reused c.deref.result.now.shared new c.args.tries
          k.last c.args.change c.ask_from-progress.result e.stands) c.client.invariant.0,
      λ r no. absurd (cc no),
    )

pub returns-clause-told : goal.returns-clause-told
returns-clause-told g c =
    let means = g.M.Means.means in let reused = g.S.Slots.reused in
    let k = c.client.inside in let e = c.ask_from-progress.ensures in let new = c.ask_from-progress.new.seat in
    let self = c.args.self in let p = c.ask_from-progress.result in
    let seat = ap (λ (w : ClientState). w.seat) c.client.view_is in
    let id : k.last ≡ self.last = search rules in
    c.go_on.ensures.told self
    (ap (λ (w : ClientState). w.group) c.client.view_is, ap (λ (w : ClientState). w.id) c.client.view_is)
    (ap (λ (w : ClientState). w.last) c.client.view_is)
    (subst (λ (w : SeatState). IsSameSeat w new) seat e.seat)
    (subst (λ (w : SeatState). TellsProgress means reused c.args.tries w new self.last c.args.change p) seat
    (subst (λ (n : ℕ). TellsProgress means reused c.args.tries k.seat new n c.args.change p) id
    (e.told k.seat (since_self reused c.args.change k.seat))))

pub returns-clause-first : goal.returns-clause-first
returns-clause-first g c =
    let k = c.client.inside in let new = c.ask_from-progress.new.seat in
    let client : ClientState = record {
      group = grouped (arc_value k.group).shared (arc_value k.group).identity;
      seat = new;
      id = k.id;
      last = k.last;
    } in
    first_shown g.M.Has.has client c.args.change c.args.tries 0 c.ask_from-progress.result c.go_on.result
    c.go_on.ensures.shown
    c.ask_from-progress.ensures.first
