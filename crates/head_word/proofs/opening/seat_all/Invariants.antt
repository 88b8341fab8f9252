use Rattle.std.proofs.Common.{◌≡◌, ◌+◌}
use Rattle.head_word.specs.Marks.{seated}
use Rattle.head_word.specs.Inside.Parts.{key_end}
use Rattle.head_word.proofs.opening.seat_all.Given as goal

abbrev pub invariant-loop-number : goal.invariant-loop-number
invariant-loop-number g l = record {
  names : l.tallies.names ≡ l.seen.names;
  next : l.tallies.next ≡ l.number + 1;
  left : l.tallies.left + l.number ≡ l.seats;
  keys : key_end l.tallies.names ≡ l.seats + 1;
  marks : l.marks.items ≡ seated l.seen.book l.seen.log l.number;
}
