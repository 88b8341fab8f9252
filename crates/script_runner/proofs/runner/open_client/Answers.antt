use Rattle.std.proofs.Common.{Some, IfOk, ap, length, refl, subst, sym, ◌∙◌, ◌≡◌, ◌-◌}
use Rattle.std.specs.Arc.{arc_value}
use Rattle.commit_graph.specs.Seats.{IsSeatOf}
use Rattle.rebase.specs.Clients.{Grouped}
use Rattle.rebase.proofs.Seating.{popped}
use Rattle.client_desk.specs.Places.{PlaceState, free_place}
use Rattle.script_runner.specs.Runs.{mark_at}
use Rattle.script_runner.specs.Inside.Players.{AreLeftOf, IsNewIn}
use Rattle.script_runner.proofs.Openings.{if_ok, if_ok_both, left_popped}
use Rattle.script_runner.proofs.runner.open_client.Goals as goal

pub returns-clause-seats : goal.returns-clause-seats
returns-clause-seats g c =
    if_ok c.sit.result (popped (IsSeatOf (arc_value c.args.group.now).group) c.args.seats.now.free c.take.new.self.free
    (Some c.in-Ok.seat) c.in-Ok.seat c.in-Ok.ensures.taken refl c.requires.seats).0

pub sit-requires : goal.sit-requires
sit-requires g c =
    let new = c.new-place.ensures in (
      c.type_bounds.sync-M,
      (
        c.in-Ok.seat,
        new ∙ ap (λ h. free_place h c.in-Ok.seat) (sym (ap (λ (p : PlaceState). p.group) new)),
      ),
    )

pub returns-clause-new : goal.returns-clause-new
returns-clause-new g c = λ count commit left.
    let means = g.M.Means.means in let new = c.new-place.ensures in let seat = c.in-Ok.seat in
    let home : c.new-place.result.group ≡ arc_value c.args.group.now =
    ap (λ (p : PlaceState). p.group) new ∙ c.in_ok-group.ensures in
    let group = arc_value c.args.group.now in let n = count - length c.args.seats.now.free in
    let rest = left_popped group count commit c.args.seats.now.free c.take.new.self.free seat c.in-Ok.ensures.taken
    left in
    if_ok_both (IsNewIn means group count commit n) (λ turn. AreLeftOf group count commit c.take.new.self.free)
    c.sit.result
    (subst (λ (h : Grouped). IfOk c.sit.result (IsNewIn means h count commit n)) home
    (c.sit.ensures.new seat count commit n
    (new ∙ ap (λ h. free_place h seat) (sym (ap (λ (p : PlaceState). p.group) new)))
    (subst (λ (h : Grouped). seat.mark ≡ mark_at h count commit n) (sym home) rest.1)))
    (if_ok c.sit.result rest.0)
