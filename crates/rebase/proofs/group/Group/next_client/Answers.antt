use Rattle.std.proofs.Common.{Some, inr, refl, sym, subst, ◌∙◌}
use Rattle.std.proofs.lemmas.List.Elements.{All-push}
use Rattle.commit_graph.specs.Seats.{IsSeatOf}
use Rattle.rebase.specs.Clients.{AreSeatsOf}
use Rattle.rebase.proofs.Seating.{popped}
use Rattle.rebase.proofs.group.Group.next_client.Goals as goal

pub returns-in-Ok-clause-seats : goal.returns-in-Ok-clause-seats
returns-in-Ok-clause-seats g c =
    (popped (IsSeatOf c.args.self.now.group) c.args.seats.now.free c.take.new.self.free (Some c.in_ok-seat.seat)
    c.in_ok-seat.seat c.in_ok-seat.ensures.taken refl c.requires.seats).0

pub returns-in-Err-clause-seats : goal.returns-in-Err-clause-seats
returns-in-Err-clause-seats g c =
    let home = c.args.self.now.group in
    let taken = popped (IsSeatOf home) c.args.seats.now.free c.take.new.self.free (Some c.in_ok-seat.seat)
    c.in_ok-seat.seat c.in_ok-seat.ensures.taken refl c.requires.seats in
    let same = c.in-Err.ensures.back.seat in
    let all = All-push (IsSeatOf home) c.take.new.self.free c.in-Err.seat taken.0
    (same.later.book ∙ taken.1.0, same.table ∙ taken.1.1) in
    subst (AreSeatsOf home) (sym c.back.ensures.free) all

pub returns-in-Err-clause-err : goal.returns-in-Err-clause-err
returns-in-Err-clause-err g c = inr (record {
  others = c.take.new.self.free;
  seat = c.in_ok-seat.seat;
  back = c.in-Err.seat;
  was = c.in_ok-seat.ensures.taken;
  is = c.back.ensures.free;
  looked = c.in-Err.ensures.back;
  missed = c.in-Err.ensures.err.0;
  left = c.in-Err.ensures.err.1;
})
