use Rattle.std.proofs.Common.{◌≡◌, ◌+◌, []}
use Rattle.reader_claims.specs.Views.{dealer}
use Rattle.reader_claims.specs.Seats.{AreSeats}
use Rattle.reader_claims.proofs.claims.Claims.new.Given as goal

abbrev pub invariant-loop-dealt : goal.invariant-loop-dealt
invariant-loop-dealt l = record {
  table : l.dealer.table_id ≡ l.table.shared.table_id;
  key : l.table.shared.key ≡ l.sizes;
  me : l.dealer.me ≡ (dealer l.sizes (l.dealt + 1), []);
  seats : AreSeats record { table = l.table.shared.table_id; sizes = l.sizes } l.dealt l.seats.items;
}
