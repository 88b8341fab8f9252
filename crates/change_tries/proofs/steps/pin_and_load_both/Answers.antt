use Rattle.std.proofs.Common.{◌≡◌, ap, subst, ◌∙◌}
use mathlib.Core.List.{IsPrefix}
use Rattle.head_word.specs.Marks.{Known, own}
use Rattle.commit_graph.specs.Seats.{SeatState}
use Rattle.change_tries.proofs.Making.{arrived}
use Rattle.change_tries.proofs.steps.pin_and_load_both.Goals as goal

pub returns-clause-arrived : goal.returns-clause-arrived
returns-clause-arrived g c =
    let mid = c.pin_and_load.new.seat.mark in let new = c.next-first.new.mark in let b = c.in_ok-base.ensures in
    let at : c.seat.inside.mark ≡ mid = ap (λ (s : SeatState). s.mark) c.seat.view_is in
    arrived g.M.Means.means c.args.seat.now.mark mid new c.copy-seen.result.log c.in_ok-base.base c.next-first.result
    (ap (λ (m : Known). m.log) c.copy-seen.ensures ∙ ap (λ (m : Known). m.log) at) b.looked.seat.later.seat b.point
    b.last b.base c.next-first.ensures.next (subst (λ (m : Known). IsPrefix m.log new.log) at c.next-first.ensures.seen)
    b.looked.own (c.next-first.ensures.own ∙ ap own at) b.others
