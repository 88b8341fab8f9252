use Rattle.std.proofs.Common.{◌≡◌, length, map, is_ok, refl, sym, subst, ap, ◌∙◌, arith}
use Rattle.std.proofs.lemmas.List.{length_push}
use Rattle.std.specs.List.{All}
use Rattle.std.proofs.lemmas.List.Elements.{All-push}
use Rattle.head_word.specs.Marks.{HasSeat}
use Rattle.map_chunks.proofs.ListLemmas.{succeeded}
use Rattle.chunk_slots.specs.Seats.{IsIdle}
use Rattle.commit_graph.specs.Seats.{IsSeatOf, SeatState}
use Rattle.rebase.proofs.Seating.{handed_marks, handed_on, popped}
use Rattle.rebase.proofs.seats.seat_all.Goals as goal

pub loop-mark-preserved : goal.loop-mark-preserved
loop-mark-preserved g c =
    let i = c.loop-mark.invariant in
    let m = popped (HasSeat c.args.shared.now.book) c.loop-mark.marks.items c.pop.new.self.items c.pop.result
    c.in-Some.mark
    c.pop.ensures.items c.in-Some.is i.marks in
    let s = popped (λ seat. (g.S.Slots.home seat ≡ c.args.shared.now.table)
    × (g.S.Slots.reused → IsIdle (g.S.Slots.view seat))) c.loop-mark.claimed.items c.pop-in-Some.new.self.items
    c.pop-in-Some.result c.in-Some-pop.slots c.pop-in-Some.ensures.items c.in-Some-pop.is i.claimed in
    let more = succeeded (is_ok c.push.result) _ _ _
    (c.push.ensures.succeeds (omega (arith, i.room, i.count, c.loop-mark.free.ok.0, m.2))) c.push.ensures.items in
    record {
      claimed = s.0;
      marks = m.0;
      same = omega (arith, i.same, s.2, m.2);
      free = subst (All (IsSeatOf c.args.shared.now)) (sym more)
          (All-push (IsSeatOf c.args.shared.now) c.loop-mark.free.items _ i.free (m.1.0, s.1.0));
      handed = handed_marks c.args.marks.items c.loop-mark.marks.items c.pop.new.self.items c.pop.result c.in-Some.mark
          c.loop-mark.free.items c.push.new.self.items _ c.pop.ensures.items c.in-Some.is more refl i.handed;
      views = handed_on g.S.Slots.view (λ (w : SeatState). w.view) (map g.S.Slots.view c.args.claimed.items)
          c.loop-mark.claimed.items c.pop-in-Some.new.self.items c.pop-in-Some.result c.in-Some-pop.slots
          c.loop-mark.free.items c.push.new.self.items _ c.pop-in-Some.ensures.items c.in-Some-pop.is more refl i.views;
      count = omega (arith, i.count, m.2, ap length more ∙ length_push c.loop-mark.free.items _);
      room = omega (arith, i.room, c.push.ensures.capacity);
    }
