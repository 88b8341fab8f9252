use Rattle.std.proofs.Common.{◌≡◌, length, get_or}
use Rattle.script_mutators.proofs.Digits.{IsReadTo}
use Rattle.script_mutators.proofs.plain.plain_digits.Given as goal

abbrev pub invariant-loop-byte : goal.invariant-loop-byte
invariant-loop-byte l = (get_or l.text 0 0 ≡ 48 → length l.text ≡ 1) × IsReadTo l.text l.byte-index l.number
