use Rattle.std.specs.List.{All}
use Rattle.reader_claims.specs.Seats.{IsNew}
use Rattle.test_group.proofs.claims.claim_places.Given as goal

abbrev pub invariant-loop-number : goal.invariant-loop-number
invariant-loop-number l = All (IsNew l.claims) l.seats.items
