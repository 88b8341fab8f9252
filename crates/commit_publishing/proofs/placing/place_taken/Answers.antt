use Rattle.std.proofs.Common.{◌≡◌, ◌∷◌, ◌++◌, [], length, map, refl, ap, subst, sym, ◌∙◌, arith, length-append}
use mathlib.Core.List.{IsPrefix}
use Rattle.std.proofs.lemmas.List.{length-map}
use Rattle.group_history.specs.Naming.{drafted_content, renamed}
use Rattle.head_word.specs.Books.{child_from, drafted, drafted_contents, drafted_from, next_stamp}
use Rattle.head_word.proofs.Books.{next_more}
use Rattle.head_word.specs.Marks.{Known, own}
use Rattle.reader_claims.specs.Deeds as deed
use Rattle.reader_claims.specs.declared.view.View.{View}
use Rattle.commit_graph.specs.Seats.{GroupId, SeatState}
use Rattle.commit_publishing.specs.Retiring.{AreFreed, draft_deeds as drafted_slots}
use Rattle.commit_publishing.proofs.Numbers.{are_drawn, are_placed}
use Rattle.commit_publishing.specs.Inside.Stacks.{Uses}
use Rattle.commit_publishing.proofs.Leaving.{gives_placed, gives_unplaced}
use Rattle.commit_publishing.proofs.Lying.{taken_below}
use Rattle.commit_publishing.proofs.Popping.{length_taken}
use Rattle.commit_publishing.proofs.Results.{if_err_then, if_ok_both, on_err_then}
use Rattle.commit_publishing.proofs.Using.{as_drafted}
use Rattle.commit_publishing.proofs.placing.place_taken.Goals as goal

pub place_drawn-requires-clause-drawn : goal.place_drawn-requires-clause-drawn
place_drawn-requires-clause-drawn g c κs within =
    let seat = c.seat.inside.mark.seat in
    let from = c.first-from.result in
    let first = c.in-Ok.first in
    let nodes = c.into_nodes-nodes.result.items in
    let d = c.in-Ok.ensures.drawn in
    let is : c.draw.new.mark.log ≡ d.0 ++ drafted seat first (drafted_from from nodes) ∷ [] =
    d.3 ∙ ap (λ ns. d.0 ++ drafted seat first (drafted_from from ns) ∷ [])
    (c.nodes.ensures.nodes ∙ sym c.into_nodes-nodes.ensures.nodes) in
    are_drawn d.0 c.draw.new.mark.log seat from first nodes d.2 is

pub returns-in-Ok-clause-placed : goal.returns-in-Ok-clause-placed
returns-in-Ok-clause-placed g c =
    let draft = c.args.draft in
    let old = c.args.seat.now.mark in
    let seat = c.seat.inside.mark.seat in
    let first = c.in-Ok.first in
    let d = c.in-Ok.ensures.drawn in
    let seen = subst (λ (m : Known). IsPrefix m.log d.0) (ap (λ (s : SeatState). s.mark) c.seat.view_is) d.1 in
    let is : c.draw.new.mark.log ≡ d.0 ++ drafted seat first (drafted_from draft.first draft.nodes) ∷ [] =
    d.3 ∙ (ap (λ k. d.0 ++ drafted seat first (drafted_from k c.nodes.result.now) ∷ []) c.first-from.ensures ∙ ap
    (λ ns. d.0 ++ drafted seat first (drafted_from draft.first ns) ∷ []) c.nodes.ensures.nodes) in
    if_ok_both c.place_drawn.result c.place_drawn.ensures.stamps c.place_drawn.ensures.count
    (λ refs are count. are_placed old.log d.0 c.draw.new.mark.log seat draft first refs.items seen d.2 is are
    (count ∙ ap length c.into_nodes-nodes.ensures.nodes))

pub returns-in-Ok-clause-drawn : goal.returns-in-Ok-clause-drawn
returns-in-Ok-clause-drawn g c =
    let contents = drafted_from c.first-from.result c.nodes.result.now in
    let once = subst (λ (m : Known). own c.draw.new.mark ≡ own m ++ drafted m.seat c.in-Ok.first contents ∷ [])
    (ap (λ (s : SeatState). s.mark) c.seat.view_is) c.in-Ok.ensures.once in
    if_ok_both c.place_drawn.result c.place_drawn.ensures.stamps c.place_drawn.ensures.count
    (λ refs are count. record {
      first = c.in-Ok.first;
      contents = contents;
      own = once;
      stamps = are;
      count = count ∙ ap length (c.into_nodes-nodes.ensures.nodes ∙ sym c.nodes.ensures.nodes)
          ∙ sym (length-map c.nodes.result.now (renamed (child_from c.first-from.result)));
    })

pub returns-in-Ok-clause-given : goal.returns-in-Ok-clause-given
returns-in-Ok-clause-given g c r xs end took below =
    let v = c.args.seat.now.view in let count = length c.args.draft.nodes in
    let contents = drafted_from c.first-from.result c.nodes.result.now in
    let once = subst (λ (m : Known). own c.draw.new.mark ≡ own m ++ drafted m.seat c.in-Ok.first contents ∷ [])
    (ap (λ (s : SeatState). s.mark) c.seat.view_is) c.in-Ok.ensures.once in
    let same = ap (λ (s : SeatState). s.view) c.seat.view_is in
    on_err_then c.place_drawn.result
    (c.place_drawn.ensures.given r xs (ap (λ (y : View). y.deeds) same ∙ took
    ∙ ap (λ (y : View). map deed.took y.taken ++ xs) (sym same)))
    (λ (settled, withdrawn, split, freed). gives_placed c.args.shared.now.table.sizes.slots end count xs v
    c.args.seat.now _
    c.args.slots.items c.in-Ok.first contents (c.requires.taken r) below c.requires.slots
    (length-map c.nodes.result.now (renamed (child_from c.first-from.result)) ∙ ap length c.nodes.ensures.nodes) once (
      settled,
      withdrawn,
      ap (λ (y : View). y.taken) (sym same) ∙ split,
      subst (λ n. AreFreed n (g.S.Slots.view c.place_drawn.new.seat).reached settled
          (drafted_slots settled withdrawn xs) (g.S.Slots.view c.place_drawn.new.seat).deeds)
          (ap (λ (z : GroupId). z.table.sizes.slots) c.shared.view_is) freed,
    ))

pub returns-in-Ok-clause-past : goal.returns-in-Ok-clause-past
returns-in-Ok-clause-past g c =
    let d = c.in-Ok.ensures.drawn in
    let contents = drafted_from c.first-from.result c.nodes.result.now in
    let entry = drafted c.seat.inside.mark.seat c.in-Ok.first contents in
    let many = ap next_stamp d.3 ∙ next_more d.0 (entry ∷ []) in
    let whole = length-map c.nodes.result.now (renamed (child_from c.first-from.result)) in
    let drew = length-map contents (drafted_content c.in-Ok.first) in
    let all = length-append (drafted_contents c.in-Ok.first contents) [] in
    let same = ap length (c.into_nodes-nodes.ensures.nodes ∙ sym c.nodes.ensures.nodes) in
    if_err_then c.place_drawn.result c.place_drawn.ensures.past
    (λ e past is. let low = past is in omega (arith, low, many, whole, drew, all, same, d.2))

pub returns-in-Err-clause-given : goal.returns-in-Err-clause-given
returns-in-Err-clause-given g c r xs end took below =
    let v = c.args.seat.now.view in let same = ap (λ (s : SeatState). s.view) c.seat.view_is in
    let u = g.S.Slots.view c.withdraw_all.new.seat in
    let used = subst (λ (y : View). Uses y [] y.taken u) same (c.withdraw_all.ensures.used r) in
    let nothing = c.in-Err.ensures.nothing ∙ ap (λ (s : SeatState). own s.mark) c.seat.view_is in
    gives_unplaced c.args.shared.now.table.sizes.slots end (length c.args.draft.nodes) xs c.args.seat.now _ v.taken
    (omega (arith, length_taken v c.args.slots.items (c.requires.taken r), c.requires.slots))
    (taken_below end v c.args.slots.items (c.requires.taken r) below)
    (as_drafted v u [] v.taken xs took refl used.1) nothing
