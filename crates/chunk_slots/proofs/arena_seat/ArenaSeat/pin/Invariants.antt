use Rattle.std.proofs.Common.{◌≡◌, ℕ, ◌+◌, ◌≤◌, max}
use Rattle.reader_claims.specs.Machine.{Moves}
use Rattle.chunk_slots.specs.Seats.{LosesPins}
use Rattle.chunk_slots.proofs.Pinning.{IsButPin}
use Rattle.chunk_slots.proofs.arena_seat.ArenaSeat.pin.Given as goal

abbrev pub invariant-loop : goal.invariant-loop
invariant-loop l = record {
  table : l.self.table ≡ l.claims;
  same : l.self.table ≡ l.fn.self.table;
  moves : Moves l.fn.self.view l.self.view;
  kept : IsButPin l.fn.self.view l.self.view;
  rose : l.fn.self.view.reached + l.counter ≤ l.self.view.reached + 1;
  few : l.counter ≤ max 1 l.fn.tries;
  lost : (n : ℕ) × (n + 1 ≡ l.counter) × LosesPins n l.fn.self.view l.self.view;
}
