use Rattle.std.proofs.Common.{◌≡◌}
use Rattle.std.specs.List.{All}
use Rattle.head_word.specs.Marks.{HasSeat}
use Rattle.chunk_slots.specs.Seats.{IsIdle}
use Rattle.test_group.specs.Trials.{AreFreeSeatsOf}
use Rattle.test_group.proofs.stores.seats_of.Given as goal

abbrev pub invariant-loop : goal.invariant-loop
invariant-loop g l = All (λ seat. (g.S.Slots.home seat ≡ l.shared.table)
    × (g.S.Slots.reused → IsIdle (g.S.Slots.view seat))) l.claimed.items × All (HasSeat l.shared.book) l.marks.items
    × AreFreeSeatsOf g.S.Slots.reused l.shared l.seats.items
