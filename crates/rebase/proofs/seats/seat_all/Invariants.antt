use Rattle.std.proofs.Common.{◌≡◌, ◌+◌, ◌≤◌, ◌++◌, length, map}
use Rattle.std.specs.Prelude.{reverse}
use Rattle.std.specs.List.{All}
use Rattle.head_word.specs.Marks.{HasSeat}
use Rattle.commit_graph.specs.Seats.{SeatState}
use Rattle.chunk_slots.specs.Seats.{IsIdle}
use Rattle.rebase.specs.Clients.{AreSeatsOf}
use Rattle.rebase.proofs.seats.seat_all.Given as goal

abbrev pub invariant-loop-mark : goal.invariant-loop-mark
invariant-loop-mark g l = record {
  claimed : All (λ seat. (g.S.Slots.home seat ≡ l.fn.shared.table)
      × (g.S.Slots.reused → IsIdle (g.S.Slots.view seat))) l.claimed.items;
  marks : All (HasSeat l.fn.shared.book) l.marks.items;
  same : length l.claimed.items ≡ length l.marks.items;
  free : AreSeatsOf l.fn.shared l.free.items;
  handed : l.fn.marks.items ≡ l.marks.items ++ reverse (map (λ (s : SeatState). s.mark) l.free.items);
  views : map g.S.Slots.view l.fn.claimed.items
      ≡ map g.S.Slots.view l.claimed.items ++ reverse (map (λ (s : SeatState). s.view) l.free.items);
  count : length l.marks.items + length l.free.items ≡ length l.fn.marks.items;
  room : length l.fn.marks.items ≤ l.free.cap;
}

abbrev pub decreases-loop-mark : goal.decreases-loop-mark
decreases-loop-mark g l = length l.marks.items
