use Rattle.std.proofs.Common.{◌≡◌, ◌<◌, []}
use Rattle.head_word.specs.Books.{drawn}
use Rattle.chunk_slots.specs.Seats.{IsIdle}
use Rattle.commit_graph.specs.Seats.{IsSameSeat, SeatState}
use Rattle.change_tries.specs.Proposing.{StaysFound}
use Rattle.change_tries.specs.Tries.{IsSince}
use Rattle.change_tries.proofs.changing.ask_from.Given as goal

-- each try was lost to others
abbrev pub invariant-loop-tried : goal.invariant-loop-tried
invariant-loop-tried g l = record {
  seat : IsSameSeat l.initial.seat l.seat;
  none : g.S.Slots.reused → l.seat.view.taken ≡ [];
  kept : StaysFound (drawn l.seat.mark.log) l.initial.found l.found l.call.change.now;
  since : (before : SeatState) → IsSince g.S.Slots.reused before l.lost l.call.change.now l.initial.seat
      → IsSince g.S.Slots.reused before l.tried l.call.change.now l.seat;
  idle : 0 < l.tried → g.S.Slots.reused → IsIdle l.seat.view;
}
