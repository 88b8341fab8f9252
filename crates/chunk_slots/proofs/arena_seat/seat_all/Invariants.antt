use Rattle.std.proofs.Common.{◌≡◌, ◌+◌, length}
use Rattle.std.specs.List.{All}
use Rattle.reader_claims.specs.Seats.{IsNew}
use Rattle.chunk_slots.proofs.arena_seat.seat_all.Given as goal

abbrev pub invariant-loop-seat : goal.invariant-loop-seat
invariant-loop-seat l = record {
  left : All (IsNew l.claims) l.left.items;
  all : All (IsNew l.claims) l.all.items;
  count : length l.left.items + length l.all.items ≡ length l.fn.dealt.items;
}

abbrev pub decreases-loop-seat : goal.decreases-loop-seat
decreases-loop-seat l = length l.left.items
