use Rattle.std.proofs.Common.{◌≡◌, length}
use Rattle.std.specs.List.{All}
use Rattle.chunk_slots.specs.Inside.Places.{IsOfBook}
use Rattle.chunk_slots.proofs.blocks.places.Given as goal

abbrev pub invariant-loop : goal.invariant-loop
invariant-loop g l = record {
  count : length l.all.items ≡ l.counter;
  book : All (IsOfBook l.seen.book) l.all.items;
}
