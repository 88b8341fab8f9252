use Rattle.std.proofs.Common.{◌≡◌, ℕ, ap, rules, sym, subst, ◌∙◌}
use Rattle.std.specs.Arc.{arc_value}
use Rattle.commit_graph.specs.Seats.{IsSameSeat, SeatState}
use Rattle.commit_graph.proofs.Seating.{seat-trans}
use Rattle.change_tries.specs.Missing.{map_ok}
use Rattle.change_tries.specs.Proposing.{AsksNext}
use Rattle.change_tries.specs.Tries.{FollowsRun}
use Rattle.change_tries.specs.Tries.{IsArrivedSince, TellsProgress}
use Rattle.rebase.specs.Asked.{TellsAsked}
use Rattle.rebase.specs.Clients.{ClientState, grouped}
use Rattle.rebase.specs.Replies.{reply_seen}
use Rattle.rebase.specs.Running.{BeganAs, EndsCall, Follows, IsAsked, UnderWay}
use Rattle.rebase.proofs.Keeping.{keeps_found}
use Rattle.rebase.proofs.Running.{next_shown, progress_none}
use Rattle.rebase.proofs.asking.Asking.ran.Goals as goal

pub invariant_of-client : goal.invariant_of-client
invariant_of-client g c =
    let means = g.M.Means.means in let reused = g.S.Slots.reused in
    let k = c.client.inside in let e = c.ran_from-progress.ensures in let new = c.ran_from-progress.new.seat in (
      keeps_found reused _ k.seat new k.id k.last k.found k.latest c.ran_from-progress.new.found c.self.inside.change
          (subst (λ (w : ClientState). AsksNext w.id w.last c.self.inside.change) (sym c.client.view_is)
          c.self.invariant.2) e.kept e.seat (progress_none g.M.Has.has means reused c.deref.result.now.shared new
          c.self.inside.tries k.last c.self.inside.change c.ran_from-progress.result e.stands)
          c.client.invariant.0,
      λ r no. absurd (cc no),
    )

pub returns-clause-told : goal.returns-clause-told
returns-clause-told g c before began =
    let means = g.M.Means.means in let reused = g.S.Slots.reused in
    let k = c.client.inside in let e = c.ran_from-progress.ensures in let new = c.ran_from-progress.new.seat in
    let a = c.self.inside in let p = c.ran_from-progress.result in
    let seat = ap (λ (w : ClientState). w.seat) c.client.view_is in
    let id : k.last ≡ a.client.last = search rules in
    let b = subst (BeganAs means reused before) (sym c.self.view_is) began in
    subst (λ (w : UnderWay). TellsAsked c.go_on.result (IsAsked means reused w.tries before w.change)
    (λ client reply. EndsCall means reused w.tries before client w.change (map_ok reply_seen reply)))
    c.self.view_is (c.go_on.ensures.told before (
      ap (λ (w : ClientState). w.group) c.client.view_is ∙ b.client.0,
      ap (λ (w : ClientState). w.id) c.client.view_is ∙ b.client.1,
    )
    (ap (λ (w : ClientState). w.last) c.client.view_is ∙ b.last)
    (seat-trans before.seat a.client.seat new b.since.same
    (subst (λ (w : SeatState). IsSameSeat w new) seat e.seat))
    (subst (λ (n : ℕ). TellsProgress means reused a.tries before.seat new n a.change p) (id ∙ b.last)
    (e.told before.seat (subst (λ (w : SeatState). IsArrivedSince means reused before.seat a.attempt.lost a.change
    a.attempt.arrival.seen.log w) (sym seat) b.since))))

pub returns-clause-next : goal.returns-clause-next
returns-clause-next g c =
    let k = c.client.inside in let new = c.ran_from-progress.new.seat in let a = c.self.inside in
    let p = c.ran_from-progress.result in
    let client : ClientState = record {
      group = grouped (arc_value k.group).shared (arc_value k.group).identity;
      seat = new;
      id = k.id;
      last = k.last;
    } in
    subst (λ (w : UnderWay). TellsAsked c.go_on.result (Follows g.M.Has.has g.M.Means.means w c.args.ran)
    (λ client reply. Unit {0})) c.self.view_is
    (next_shown g.M.Has.has g.M.Means.means a.client client a.change a.tries a.attempt c.args.ran p c.go_on.result
    c.go_on.ensures.shown
    (subst (λ (w : SeatState). FollowsRun g.M.Has.has g.M.Means.means w new a.attempt c.args.ran a.change p)
    (ap (λ (w : ClientState). w.seat) c.client.view_is) c.ran_from-progress.ensures.next))
