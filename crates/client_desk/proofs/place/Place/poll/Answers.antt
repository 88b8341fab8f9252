use Rattle.std.proofs.Common.{None, Option, ap, arith, refl, subst, sym, ◌≡◌, ◌∙◌}
use Rattle.std.proofs.lemmas.List.{get_or_default}
use Rattle.std.specs.Arc.{arc_value}
use Rattle.std.specs.Prelude.{IfSome}
use Rattle.commit_graph.specs.Seats.{IsSeatOf}
use Rattle.rebase.specs.Clients.{ClientState}
use Rattle.rebase.specs.Watching.{Watched}
use Rattle.client_desk.specs.Sitting.{client_of}
use Rattle.client_desk.specs.Inside.Keeping.{telling_of}
use Rattle.client_desk.proofs.Watching.{polled}
use Rattle.client_desk.proofs.place.Place.poll.Goals as goal

pub returns-in-Some : goal.returns-in-Some
returns-in-Some g c =
    let here = rw c.in-Client.is at c.self.view_is in let e = c.poll_watch.ensures in
    let there = get_or_default c.self.inside.watches.items c.args.number None c.index_mut.result.now
    (omega (arith, c.len.ensures, c.if-number-len.false)) ∙ sym c.index_mut.ensures.value ∙ c.in-Some.is in
    polled (telling_of c.args.tells) g.M.Means.means _ c.args.self.now c.in-Client.client c.poll_watch.new.client
    c.args.number c.in-Some.watch c.poll_watch.new.watch _ here refl there e.polled e.looked

pub poll_watch-requires-clause-book : goal.poll_watch-requires-clause-book
poll_watch-requires-clause-book g c κs within =
    let there = get_or_default c.self.inside.watches.items c.args.number None c.index_mut.result.now
    (omega (arith, c.len.ensures, c.if-number-len.false)) ∙ sym c.index_mut.ensures.value ∙ c.in-Some.is in
    let of_book = subst (λ (o : Option Watched). IfSome o
    (λ w. w.book ≡ (arc_value c.self.inside.group).group.book)) there (c.self.invariant.4 c.args.number) in
    let seated = subst (λ (o : Option ClientState). IfSome o (λ x. (x.group ≡ arc_value c.self.inside.group)
    × IsSeatOf (arc_value c.self.inside.group).group x.seat)) (ap (λ sits. client_of sits) c.in-Client.is)
    c.self.invariant.1 in
    of_book ∙ sym seated.1.0
