use Rattle.std.proofs.Common.{◌≡◌, ◌≤◌, ◌++◌, ◌∙◌, [], length, map, ap, subst}
use Rattle.head_word.specs.Marks.{own}
use Rattle.reader_claims.specs.Deeds as deed
use Rattle.reader_claims.specs.Seats.{kind_end}
use Rattle.commit_graph.specs.Seats.{GroupId, SeatState}
use Rattle.commit_publishing.specs.Inside.Stacks.{AreLower}
use Rattle.commit_publishing.specs.Retiring.{draft_deeds}
use Rattle.commit_publishing.proofs.Leaving.{gives_as, gives_unplaced}
use Rattle.commit_publishing.proofs.Results.{on_err, on_err_then}
use Rattle.commit_publishing.proofs.placing.place_draft.Goals as goal

pub returns-in_err-slots-clause-given : goal.returns-in_err-slots-clause-given
returns-in_err-slots-clause-given g c r =
    let (back, few, low, made) = c.in_err-slots.ensures.given r in
    let did = subst (λ s. (g.S.Slots.view c.take_all.new.seat).deeds ≡ draft_deeds [] back (g.S.Slots.view s).deeds)
    c.begin_at_basis.ensures.seat made in
    let sizes = c.args.shared.now.table.sizes in
    let end = kind_end sizes c.args.kind in
    on_err c.from_residual.result (gives_unplaced sizes.slots end (length c.args.draft.nodes) c.args.seat.now.view.deeds
    c.args.seat.now _ back (subst (λ n. length back ≤ n) (ap length c.nodes-count.ensures.nodes) few)
    (subst (λ (z : GroupId). AreLower (kind_end z.table.sizes c.args.kind) back) c.shared.view_is low)
    (subst (λ (s : SeatState). (g.S.Slots.view c.take_all.new.seat).deeds ≡ draft_deeds [] back s.view.deeds)
    c.seat.view_is did)
    (ap (λ (s : SeatState). own s.mark) c.seat.view_is))

pub returns-clause-within : goal.returns-clause-within
returns-clause-within g c r = c.place_taken.ensures.within r (kind_end c.args.shared.now.table.sizes c.args.kind)
    (subst (λ (z : GroupId). AreLower (kind_end z.table.sizes c.args.kind) c.in_ok-slots.slots.items) c.shared.view_is
    (c.in_ok-slots.ensures.within r))

pub returns-clause-given : goal.returns-clause-given
returns-clause-given g c r =
    let sizes = c.args.shared.now.table.sizes in
    let end = kind_end sizes c.args.kind in
    let v = c.args.seat.now.view in
    let took = c.in_ok-slots.ensures.took r in
    let low = subst (λ (z : GroupId). AreLower (kind_end z.table.sizes c.args.kind) c.in_ok-slots.slots.items)
    c.shared.view_is (c.in_ok-slots.ensures.within r) in
    on_err_then c.place_taken.result
    (c.place_taken.ensures.given r v.deeds end (took.1 ∙ ap (λ s. map deed.took
    (g.S.Slots.view c.take_all.new.seat).taken ++ (g.S.Slots.view s).deeds) c.begin_at_basis.ensures.seat
    ∙ ap (λ (s : SeatState). map deed.took (g.S.Slots.view c.take_all.new.seat).taken ++ s.view.deeds) c.seat.view_is)
    low)
    (gives_as sizes.slots end (length c.args.draft.nodes) v.deeds _ c.args.seat.now c.place_taken.new.seat
    (ap (λ (s : SeatState). s.mark) c.seat.view_is))
